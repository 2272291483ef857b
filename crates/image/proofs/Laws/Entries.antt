-- The row of sixteen entries, one by one. Assumes nothing.
use mathlib.Core.Path.{◌≡◌, refl, sym, ap, ◌∙◌}
use mathlib.Core.List.{List, [], ◌∷◌, ◌++◌, append_assoc, append-nil}
use Prim.Native.Nat.{ℕ, zero, suc, ◌<◌, ◌≤◌}
use native.Mathlib.Omega.{arith}
use lib.ListN.{length, take, drop, get_or}
use Rattle.std.specs.Simd.{first_chunks}
use Rattle.model.specs.Image.{Entry, entry_bytes, entries_bytes}

-- one more entry is written
pub entries-more : (es : List Entry) (i : ℕ) (d : Entry) → i < length es → entries_bytes (take (suc i) es) ≡ entries_bytes (take i es) ++ entry_bytes (get_or es i d)
unfolding entries_bytes
entries-more [] i d h = absurd (omega arith)
entries-more (x ∷ es) zero d h = append-nil (entry_bytes x)
entries-more (x ∷ es) (suc i) d h =
    ap (λ (l : List ℕ). entry_bytes x ++ l) (entries-more es i d (omega arith)) ∙ sym (append_assoc (entry_bytes x) (entries_bytes (take i es)) _)

-- the first k of at least as many rows of 44 bytes
pub few-chunks : (k m : ℕ) (l : List ℕ) → k ≤ m → take k (first_chunks 44 m l) ≡ first_chunks 44 k l
few-chunks zero m l h = refl
few-chunks (suc k) zero l h = absurd (omega (arith, h))
few-chunks (suc k) (suc m) l h = ap (λ (rows : List (List ℕ)). take 44 l ∷ rows) (few-chunks k m (drop 44 l) (omega arith))
