use Rattle.std.proofs.Common.{◌≡◌}
use Rattle.model.specs.Image.{entries_from}
use Rattle.model.specs.Restored.{restored}
use Rattle.model.proofs.Laws.Filled.{filled, below}
use Rattle.image.proofs.decode.put_channels.Given as goal

abbrev pub invariant-loop-k : goal.invariant-loop-k
invariant-loop-k l = l.channels ≡ filled (below l.k) (λ j. restored) (entries_from 16 l.s) l.initial.channels
