use mathlib.Core.Path.{◌≡◌}
use Prim.Native.Nat.{◌*◌, ◌-◌, ◌≤◌}
use lib.ListN.{length, take}
use Rattle.model.specs.Reads.{pairs_bytes}
use Rattle.buffers.specs.Pasted.{pasted}
use Rattle.buffers.proofs.put_pairs.Given as goal

abbrev pub invariant-loop-k : goal.invariant-loop-k
invariant-loop-k l =
    (l.k ≤ 10)
    × (l.buf ≡ pasted l.initial.buf l.at (pairs_bytes (take l.k l.pairs)))
    × (length l.buf ≡ length l.initial.buf)
    × (length (pairs_bytes (take l.k l.pairs)) ≡ 8 * l.k)

abbrev pub decreases-loop-k : goal.decreases-loop-k
decreases-loop-k l = 10 - l.k
