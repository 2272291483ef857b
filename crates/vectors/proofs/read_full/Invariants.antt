use Prim.Native.Nat.{◌≤◌, ◌-◌}
use mathlib.Core.Path.{◌≡◌}
use lib.ListN.{length}
use Rattle.vectors.proofs.read_full.Given as goal

-- `read_full` is safe and ends: `n` is at most the length of a line, and the measure is how many bytes are left.
abbrev pub invariant-loop-n : goal.invariant-loop-n
invariant-loop-n g l = (l.n ≤ 12) × (length l.line ≡ 12)

abbrev pub decreases-loop-n : goal.decreases-loop-n
decreases-loop-n g l = 12 - l.n
