-- A word of levels and the levels: each bit is one of them, none stands above the sixteenth, and the word of sixteen levels shows these again. Assumes nothing.
use mathlib.Core.Path.{◌≡◌, refl, ap, sym, ◌∙◌}
use mathlib.Core.Bool.{Bool, true, false}
use mathlib.Core.List.{List, [], ◌∷◌}
use Prim.Native.Nat.{ℕ, zero, suc, ◌+◌, ◌*◌, ◌/◌, ◌%◌, ◌≤◌, ◌<◌, ◌^◌}
use native.Mathlib.Nat.{div-eq_of_lt, not-suc-le-zero, pow-le-pow_right, zero-lt-suc}
use native.Mathlib.Omega.{arith}
use lib.Dec.{eqb}
use lib.ListN.{length, get_or}
use lib.Pow.{shr-shr}
use Rattle.model.specs.Settings.{bit}
use Rattle.model.specs.Errors.{bit_value, word_of}
use Rattle.settings.specs.Levels.{lowest, levels_of}

-- the bit that was put lowest is read lowest, and what stands above it comes down by one
lowest-bit : (b : Bool) (w : ℕ) → bit 0 (bit_value b + 2 * w) ≡ b
lowest-bit true w = let e : (1 + 2 * w) / 2 ^ 0 % 2 ≡ 1 = omega arith in rw e
lowest-bit false w = let e : (0 + 2 * w) / 2 ^ 0 % 2 ≡ 0 = omega arith in rw e

above : (b : Bool) (w : ℕ) → (bit_value b + 2 * w) / 2 ≡ w
above true w = omega arith
above false w = omega arith

shown : (bs : List Bool) → lowest (length bs) (word_of bs) ≡ bs
shown [] = refl
shown (b ∷ bs) = rw (lowest-bit b (word_of bs), above b (word_of bs), shown bs)

pub levels-shown : (bs : List Bool) → length bs ≡ 16 → levels_of (word_of bs) ≡ bs
unfolding levels_of
levels-shown bs l = ap (λ (n : ℕ). lowest n (word_of bs)) (sym l) ∙ shown bs

-- bit k of a word is the level at place k
lowest-at : (k n w : ℕ) → k < n → get_or (lowest n w) k false ≡ bit k w
lowest-at k zero w l = absurd (not-suc-le-zero l)
lowest-at zero (suc n) w l = refl
lowest-at (suc k) (suc n) w l =
    let e : 1 + k ≡ suc k = omega arith in
    lowest-at k n (w / 2) (omega (arith, l)) ∙ ap (λ (m : ℕ). eqb (m % 2) 1) (rw e at (shr-shr w 1 k))

pub level-at : (k w : ℕ) → k < 16 → get_or (levels_of w) k false ≡ bit k w
unfolding levels_of
level-at k w l = lowest-at k 16 w l

-- a word of sixteen bits has none above them
pub none_above : (k w : ℕ) → w < 65536 → 15 < k → false ≡ bit k w
none_above k w h l =
    let p : 2 ^ 16 ≤ 2 ^ k = pow-le-pow_right (zero-lt-suc 1) {i = 16} (omega (arith, l)) in
    let e : w / 2 ^ k ≡ 0 = div-eq_of_lt (omega (arith, p, h)) in
    rw e
