use mathlib.Core.Path.{◌≡◌}
use lib.ListN.{length}
use Rattle.play.proofs.calls.make.Given as goal

abbrev pub invariant-loop-left : goal.invariant-loop-left
invariant-loop-left l = length l.lent ≡ length l.initial.lent

abbrev pub decreases-loop-left : goal.decreases-loop-left
decreases-loop-left l = l.left
