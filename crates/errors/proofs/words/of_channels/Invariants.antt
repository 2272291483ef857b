use Rattle.std.proofs.Common.{◌≡◌, List, ◌++◌, map}
use Rattle.model.specs.declared.Channel.{Channel}
use Rattle.model.specs.State.{out_flag_of, in_flag_of}
use Rattle.model.specs.Errors.{word_of, has_his, has_act}
use Rattle.errors.proofs.words.of_channels.Given as goal

-- the channels that the loop has done, the last ones, are in the words
abbrev pub invariant-loop-ch : goal.invariant-loop-ch
invariant-loop-ch l =
    (done : List Channel) × (l.ch-iterator.iter.rest.now ++ done ≡ l.fn.channels) × (l.out ≡ word_of (map out_flag_of done))
    × (l.input ≡ word_of (map in_flag_of done)) × (l.his ≡ word_of (map has_his done)) × (l.act ≡ word_of (map has_act done))
