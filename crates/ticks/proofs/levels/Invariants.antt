use Rattle.std.proofs.Common.{◌≡◌, List, ◌++◌, map}
use Rattle.model.specs.declared.Channel.{Channel}
use Rattle.model.specs.State.{in_flag_of}
use Rattle.model.specs.Errors.{word_of}
use Rattle.ticks.proofs.levels.Given as goal

-- the channels that the loop has done, the last ones, are in the word
abbrev pub invariant-loop-ch : goal.invariant-loop-ch
invariant-loop-ch l = (done : List Channel) × (l.ch-iterator.iter.rest.now ++ done ≡ l.fn.channels) × (l.r ≡ word_of (map in_flag_of done))
