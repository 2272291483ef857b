-- One byte more of those that must be zero. Assumes nothing.
use mathlib.Core.Path.{◌≡◌, ap, ◌∙◌}
use mathlib.Core.Bool.{Bool, ◌&&◌}
use mathlib.Core.List.{List}
use Prim.Native.Nat.{ℕ, suc, ◌<◌}
use lib.Dec.{eqb}
use lib.ListN.{length, drop, get_or}
use lib.Seq.{drop-cons}
use Rattle.model.specs.Writes.{all_zero}

pub zero_more : (l : List ℕ) (i : ℕ) (b : Bool) → i < length l → eqb (get_or l i 0) 0 ≡ b → all_zero (drop i l) ≡ b && all_zero (drop (suc i) l)
zero_more l i b h e = ap all_zero (drop-cons l i 0 h) ∙ ap (λ (t : Bool). t && all_zero (drop (suc i) l)) e
