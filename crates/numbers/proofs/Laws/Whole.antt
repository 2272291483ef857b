-- The laws of `whole`, for proofs that do not compute with it. Assumes nothing.
use mathlib.Core.Path.{◌≡◌, refl, sym, ◌∙◌, subst}
use Prim.Native.Nat.{ℕ, ◌*◌, ◌/◌, ◌%◌, ◌≤◌, ◌<◌}
use native.Mathlib.Nat.{le_trans, le_of_eq, mul-le-mul_right, mul-div_cancel, mul-mod_left, div-eq_of_lt, mod-eq_of_lt}
use native.Mathlib.Omega.{arith}
use lib.Ieee.Nearest.{closest, closest_same, closest_mono}
use Rattle.numbers.specs.Reals.{whole}
use Rattle.numbers.proofs.Laws.Quotient.{closest-down}

-- what the code works out
pub whole-closest : (a b : ℕ) → closest a b ≡ whole a b
unfolding whole
whole-closest a b = refl

-- equal fractions give the same number
pub whole_same : (a b c d : ℕ) → 0 < b → 0 < d → a * d ≡ c * b → whole a b ≡ whole c d
unfolding whole
whole_same = closest_same

-- a remainder below a half gives the quotient
whole_below : (a b : ℕ) → a % b * 2 < b → whole a b ≡ a / b
unfolding whole
whole_below a b h = sym (closest-down a b h)

-- a fraction below a half gives 0
pub whole-small : (a b : ℕ) → a * 2 < b → whole a b ≡ 0
whole-small a b h = whole_below a b r ∙ div-eq_of_lt l
  where
    l : a < b
    l = omega arith

    r : a % b * 2 < b
    r = subst (λ (y : ℕ). y * 2 < b) (sym (mod-eq_of_lt l)) h

-- a whole number is itself
pub whole-exact : (h b : ℕ) → 0 < b → whole (h * b) b ≡ h
whole-exact h b B = whole_below (h * b) b r ∙ mul-div_cancel h B
  where
    r : h * b % b * 2 < b
    r = rw mul-mod_left B

-- a fraction up to h gives a number up to h
pub whole-up-to : (a b h : ℕ) → 0 < b → a ≤ h * b → whole a b ≤ h
unfolding whole
whole-up-to a b h B l = le_trans (closest_mono a b (h * b) b B B (mul-le-mul_right b l)) (le_of_eq (whole-exact h b B))
