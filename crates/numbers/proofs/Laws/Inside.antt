-- How large the count of a Real of 32 bits can be, over the unit. Assumes nothing.
use mathlib.Core.Path.{◌≡◌, sym, ap, subst}
use mathlib.Core.Logic.{inl, inr}
use mathlib.Core.Bool.{Bool, ◌&&◌}
use Prim.Native.Nat.{ℕ, zero, suc, ◌+◌, ◌-◌, ◌*◌, ◌%◌, ◌^◌, ◌≤◌, ◌<◌}
use native.Mathlib.Nat.{le_trans, le_of_eq, le_of_lt, lt_of_le_of_lt, lt_of_lt_of_le, lt_irrefl, zero-lt-suc, mul-one, mul-zero, suc-mul, mul_right_comm}
use native.Mathlib.Nat.{mul-le-mul_right, mul-le-mul_left}
use native.Mathlib.Omega.{arith}
use lib.Dec.{T, ltb, leb, eqb, ltb→lt, lit<, lit≤}
use lib.IntN.{ℤ, pos, negsuc}
use lib.Ieee.{Float, nan, inf, fin, binary32, up, down, fits}
use lib.Ieee.Fits.{down_pos, and_l, and_r}
use Rattle.numbers.specs.Reals.{units_of, under}
use Rattle.numbers.proofs.Laws.Quotient.{decide}
use Rattle.numbers.proofs.Laws.Whole.{whole-up-to}

-- the 24 digits of a Real of 32 bits
pub digits-few : (s : Bool) (m : ℕ) (e : ℤ) → T (fits binary32 (fin s m e)) → m < 16777216
unfolding fits
digits-few s zero e F = lit< tt
digits-few s (suc m) e F =
    ltb→lt (suc m) 16777216 (and_r (eqb (suc m % 2) 1) (ltb (suc m) 16777216) (and_l (eqb (suc m % 2) 1 && ltb (suc m) 16777216) (leb (down e) (2 ^ 149))
    (and_l (eqb (suc m % 2) 1 && ltb (suc m) 16777216 && leb (down e) (2 ^ 149)) (ltb (suc m * up e) (2 ^ 128 * down e)) F)))

-- ---- up to the bound that the Real is below
pub units-up-to : (per high : ℕ) (x : Float) → T (under per high x) → units_of per x ≤ high
unfolding units_of under
units-up-to per high nan R = absurd R
units-up-to per high (inf s) R = absurd R
units-up-to per high (fin s m e) R = whole-up-to (m * up e * per) (down e) high (down_pos e) (le_of_lt (ltb→lt (m * up e * per) (high * down e) R))

-- ---- and not up to the end of a range: a Real of n / p s below it is a whole count below it at least, where p is 1 and where n has 24 digits
last : (n p a : ℕ) → a + p ≤ n * p → a ≤ (n - 1) * p
last zero p a h = omega arith
last (suc n) p a h = subst (λ (y : ℕ). a ≤ y * p) less_one (omega (arith, suc-mul n p))
  where
    less_one : n ≡ suc n - 1
    less_one = omega arith

module _ (per end n : ℕ) where
  room_whole : 0 < end * per → n < end → n * per + 1 ≤ end * per
  room_whole E h =
      let a : suc n * per ≤ end * per = mul-le-mul_right per h in
      let b : suc n * per ≡ n * per + per = suc-mul n per in
      let c : 0 < per = some per E in
      omega arith
    where
      some : (per : ℕ) → 0 < end * per → 0 < per
      some zero h = absurd (lt_irrefl 0 (lt_of_lt_of_le h (le_of_eq (mul-zero end))))
      some (suc k) h = zero-lt-suc k

  room-digits : (p : ℕ) → n < end * p → n < end * per → n * per + p ≤ end * per * p
  room-digits p R E = elim (decide p per) [
    | inl l ↦
        let a : suc n * per ≤ end * p * per = mul-le-mul_right per R in
        let b : suc n * per ≡ n * per + per = suc-mul n per in
        let c : end * p * per ≡ end * per * p = mul_right_comm end p per in
        omega arith
    | inr g ↦
        let a : suc n * p ≤ end * per * p = mul-le-mul_right p E in
        let b : suc n * p ≡ n * p + p = suc-mul n p in
        let c : n * per ≤ n * p = mul-le-mul_left n (le_of_lt g) in
        omega arith
  ]

room : (per end m : ℕ) (e : ℤ) → 16777216 ≤ end * per → m < 16777216 → m * up e < end * down e → m * up e * per + down e ≤ end * per * down e
room per end m (pos k) E M h =
    le_trans (room_whole per end (m * 2 ^ k) (le_trans (lit≤ tt) E) (lt_of_lt_of_le h (le_of_eq (mul-one end))))
    (le_of_eq (sym (mul-one (end * per))))
room per end m (negsuc k) E M h =
    le_trans (le_of_eq (ap (λ (y : ℕ). y * per + 2 ^ suc k) (mul-one m)))
    (room-digits per end m (2 ^ suc k) (lt_of_le_of_lt (le_of_eq (sym (mul-one m))) h) (lt_of_lt_of_le M E))

below_end : (k n : ℕ) → 0 < n → k ≤ n - 1 → k < n
below_end k n N h = omega arith

pub units-inside : (per end : ℕ) (x : Float) → 16777216 ≤ end * per → T (fits binary32 x) → T (under 1 end x) → units_of per x < end * per
unfolding units_of under
units-inside per end nan E F R = absurd R
units-inside per end (inf s) E F R = absurd R
units-inside per end (fin s m e) E F R = below_end _ (end * per) (le_trans (lit≤ tt) E)
    (whole-up-to (m * up e * per) (down e) (end * per - 1) (down_pos e)
    (last (end * per) (down e) (m * up e * per) (room per end m e E (digits-few s m e F)
    (lt_of_le_of_lt (le_of_eq (sym (mul-one (m * up e)))) (ltb→lt (m * up e * 1) (end * down e) R)))))
