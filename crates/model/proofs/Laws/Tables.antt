-- The pairs of a table, one by one. Assumes nothing.
use mathlib.Core.Path.{◌≡◌, refl, sym, ap, ◌∙◌}
use mathlib.Core.List.{List, [], ◌∷◌, ◌++◌, append_assoc, append-nil}
use Prim.Native.Nat.{ℕ, zero, suc, ◌<◌}
use native.Mathlib.Omega.{arith}
use lib.ListN.{length, take, get_or}
use Rattle.model.specs.Image.{part}
use Rattle.numbers.specs.Reals.{real_from, real_bytes}
use Rattle.model.specs.declared.Pair.{Pair}
use Rattle.model.specs.Reads.{pairs_bytes}

-- ---- pairs taken from bytes, one by one
abbrev pub pair_from : List ℕ → Pair
pair_from l = record { x = real_from (part 0 4 l); y = real_from (part 4 4 l) }

-- of the eight bytes alone
pub pair-alone : (l : List ℕ) → pair_from (take 8 l) ≡ pair_from l
pair-alone [] = refl
pair-alone (a ∷ []) = refl
pair-alone (a ∷ b ∷ []) = refl
pair-alone (a ∷ b ∷ c ∷ []) = refl
pair-alone (a ∷ b ∷ c ∷ d ∷ []) = refl
pair-alone (a ∷ b ∷ c ∷ d ∷ e ∷ []) = refl
pair-alone (a ∷ b ∷ c ∷ d ∷ e ∷ f ∷ []) = refl
pair-alone (a ∷ b ∷ c ∷ d ∷ e ∷ f ∷ g ∷ []) = refl
pair-alone (a ∷ b ∷ c ∷ d ∷ e ∷ f ∷ g ∷ h ∷ l) = refl

-- ---- and given as bytes
pub bytes-more : (ps : List Pair) (i : ℕ) (d : Pair) → i < length ps → pairs_bytes (take (suc i) ps) ≡ pairs_bytes (take i ps) ++
    (real_bytes (get_or ps i d).x ++ real_bytes (get_or ps i d).y)
unfolding pairs_bytes
bytes-more [] i d h = absurd (omega arith)
bytes-more (p ∷ ps) zero d h = append-nil (real_bytes p.x ++ real_bytes p.y)
bytes-more (p ∷ ps) (suc i) d h =
    ap (λ (l : List ℕ). (real_bytes p.x ++ real_bytes p.y) ++ l) (bytes-more ps i d (omega arith))
    ∙ sym (append_assoc (real_bytes p.x ++ real_bytes p.y) (pairs_bytes (take i ps)) _)
