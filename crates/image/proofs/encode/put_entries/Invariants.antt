use mathlib.Core.Path.{◌≡◌}
use mathlib.Core.List.{map}
use Prim.Native.Nat.{◌*◌}
use lib.ListN.{length, take}
use Rattle.buffers.specs.Pasted.{pasted}
use Rattle.model.specs.Image.{entry_of, entries_bytes}
use Rattle.image.proofs.encode.put_entries.Given as goal

abbrev pub invariant-loop-k : goal.invariant-loop-k
invariant-loop-k l =
    (l.image ≡ pasted l.initial.image 10 (entries_bytes (take l.k (map entry_of l.fn.channels))))
    × (length l.image ≡ length l.initial.image)
    × (length (entries_bytes (take l.k (map entry_of l.fn.channels))) ≡ 44 * l.k)
