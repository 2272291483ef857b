-- A count of at most 24 significant bits, read as a Real and written again: its Real is exact, so the count comes back, and its register allows the Real.
-- Every written count is one of these. Assumes nothing.
use mathlib.Core.Path.{◌≡◌, refl, sym, ap, ◌∙◌, subst}
use mathlib.Core.Logic.{inl, inr}
use mathlib.Core.Bool.{Bool, true, false, true≢false}
use Prim.Native.Nat.{ℕ, suc, ◌+◌, ◌-◌, ◌*◌, ◌^◌, ◌≤◌, ◌<◌}
use native.Mathlib.Nat.{le_trans, le_of_eq, le_of_lt, lt_of_lt_of_le, lt_of_le_of_lt, mul-one, one-mul, mul_assoc, mul_right_comm}
use native.Mathlib.Nat.{mul-le-mul_right, mul-le-mul_left, mul-lt-mul_of_pos_right, lt_of_mul-lt-mul_right, le_of_mul-le-mul_right, mul-pos}
use native.Mathlib.Omega.{arith}
use lib.Dec.{T, lt→ltb, lit<, lit≤}
use lib.IntN.{ℤ, pos, negsuc, neg_ℤ, nat_abs}
use lib.Pow.{pow-add, pow_pos, pow_mono, pow-lt}
use lib.Ieee.{Float, nan, inf, fin, binary32, up, down, fits, le, lt, round, of_int, to_bits, of_bits}
use lib.Ieee.Bits.{of_bits-to_bits, to_bits-lt, is_true}
use lib.Ieee.Exact.{HasValue, round_exact}
use lib.Ieee.Fits.{down_pos, round-fits}
use lib.Ieee.Order.{le_of_values}
use mir.Syntax.{w32}
use mir.Val.{SFits}
use mir.Facts.{yes_and}
use Rattle.integers.proofs.Claims.{come-back}
use Rattle.numbers.specs.Reals.{real_from, real_bytes, signed, whole, units_of, count_of, real_of}
use Rattle.numbers.specs.Written.{from, below, timer_allowed, preset_allowed, operating_allowed}
use Rattle.numbers.specs.Claims.{Within24}
use Rattle.numbers.proofs.Laws.Whole.{whole-exact, whole-up-to}
use Rattle.numbers.proofs.Laws.Quotient.{decide}
use Rattle.numbers.proofs.Laws.Inside.{digits-few}
use Rattle.numbers.proofs.Laws.Nearest.{nat_abs-neg}
use Rattle.numbers.proofs.Laws.Range.{le-made, preset-timer}

-- ---- on the wire a Real of 32 bits is itself
pub on-the-wire : (x : Float) → T (fits binary32 x) → real_from (real_bytes x) ≡ x
unfolding real_from real_bytes
on-the-wire x F =
    ap (of_bits binary32) (come-back.numbers 4 (to_bits binary32 x) (to_bits-lt binary32 x F))
    ∙ of_bits-to_bits binary32 x F

-- ---- the Real of a count is exact
module _ (n u : ℕ) (S : Within24 n) (U : u ≤ 149) (N : n ≤ 4294967296) where
  moved : S.digits * 2 ^ (S.places + (149 - u)) ≡ n * 2 ^ (149 - u)
  moved =
      ap (λ (y : ℕ). S.digits * y) (pow-add 2 S.places (149 - u))
      ∙ sym (mul_assoc S.digits (2 ^ S.places) (2 ^ (149 - u)))
      ∙ ap (λ (y : ℕ). y * 2 ^ (149 - u)) (sym S.is)

  fine : S.digits * 2 ^ (S.places + (149 - u)) < 2 ^ 277
  fine = lt_of_le_of_lt (le_of_eq moved) (lt_of_le_of_lt (mul-le-mul_right (2 ^ (149 - u)) N)
      (lt_of_le_of_lt (le_of_eq (sym (pow-add 2 32 (149 - u)))) (pow-lt few)))
    where
      few : 32 + (149 - u) < 277
      few = omega arith

  cross : n * 2 ^ 149 ≡ S.digits * 2 ^ (S.places + (149 - u)) * 2 ^ u
  cross = ap (λ (y : ℕ). n * 2 ^ y) all ∙ ap (λ (y : ℕ). n * y) (pow-add 2 (149 - u) u) ∙ sym (mul_assoc n (2 ^ (149 - u)) (2 ^ u))
      ∙ ap (λ (y : ℕ). y * 2 ^ u) (sym moved)
    where
      all : 149 ≡ 149 - u + u
      all = omega arith

  exact : (s : Bool) → HasValue (round binary32 s n (2 ^ u)) s n (2 ^ u)
  exact s = round_exact binary32 s n (2 ^ u) S.digits (S.places + (149 - u)) (pow_pos u) S.few fine cross

-- ---- so the count comes back
value-count : (per : ℕ) (x : Float) (s : Bool) (n : ℕ) → HasValue x s n per → count_of per x ≡ signed s n
unfolding count_of units_of
value-count per nan s n v = absurd v
value-count per (inf t) s n v = absurd v
value-count per (fin t m e) s n v =
    ap (λ (y : ℕ). signed t (whole y (down e))) v.1
    ∙ ap (signed t) (whole-exact n (down e) (down_pos e))
    ∙ ap (λ (b : Bool). signed b n) v.0

round-wire : (s : Bool) (n per : ℕ) → real_from (real_bytes (round binary32 s n per)) ≡ round binary32 s n per
round-wire s n per = on-the-wire (round binary32 s n per) (round-fits binary32 s n per)

pub count-back : (u : ℕ) (z : ℤ) → u ≤ 149 → nat_abs z ≤ 2 ^ 32 → Within24 (nat_abs z) → count_of (2 ^ u) (real_from (real_bytes (real_of (2 ^ u) z))) ≡ z
unfolding real_of
count-back u (pos n) U N S = ap (count_of (2 ^ u)) (round-wire false n (2 ^ u)) ∙ value-count (2 ^ u) (round binary32 false n (2 ^ u)) false n (exact n u S U N false)
count-back u (negsuc n) U N S =
    ap (count_of (2 ^ u)) (round-wire true (suc n) (2 ^ u))
    ∙ value-count (2 ^ u) (round binary32 true (suc n) (2 ^ u)) true (suc n) (exact (suc n) u S U N true)

-- ---- and its Real is in range
value-from : (per n : ℕ) (x : Float) → 0 < per → HasValue x false n per → T (le (fin false 0 (pos 0)) x)
value-from per n x P v = le_of_values (fin false 0 (pos 0)) x 0 1 n per (lit< tt) P (refl, refl) v (omega arith)

-- n / per, which is m * 2 ^ e, against 2 ^ k: the sides of the test, times per
module _ (per k n m : ℕ) (e : ℤ) (v : m * up e * per ≡ n * down e) where
  left : m * up e * 1 * per ≡ n * down e
  left = ap (λ (y : ℕ). y * per) (mul-one (m * up e)) ∙ v

  right : 2 ^ k * per * down e ≡ 1 * 2 ^ k * down e * per
  right = mul_right_comm (2 ^ k) per (down e) ∙ ap (λ (y : ℕ). y * down e * per) (sym (one-mul (2 ^ k)))

  sides-lt : n < 2 ^ k * per → m * up e * 1 < 1 * 2 ^ k * down e
  sides-lt h = lt_of_mul-lt-mul_right per (lt_of_le_of_lt (le_of_eq left) (lt_of_lt_of_le (mul-lt-mul_of_pos_right h (down_pos e)) (le_of_eq right)))

  sides-le : 0 < per → n ≤ 2 ^ k * per → m * up e * 1 ≤ 1 * 2 ^ k * down e
  sides-le P h = le_of_mul-le-mul_right (le_trans (le_of_eq left) (le_trans (mul-le-mul_right (down e) h) (le_of_eq right))) P

module _ (per k n : ℕ) where
  value-below : (x : Float) → HasValue x false n per → n < 2 ^ k * per → T (lt x (fin false 1 (pos k)))
  unfolding lt
  value-below nan v h = absurd v
  value-below (inf s) v h = absurd v
  value-below (fin true m e) v h = absurd (true≢false v.0)
  value-below (fin false m e) v h = lt→ltb (m * up e * 1) (1 * 2 ^ k * down e) (sides-lt per k n m e v.1 h)

  -- below 0 the low end is in
  value-lower : (x : Float) → 0 < per → HasValue x true n per → n ≤ 2 ^ k * per → T (le (fin true 1 (pos k)) x)
  unfolding le lt
  value-lower nan P v h = absurd v
  value-lower (inf s) P v h = absurd v
  value-lower (fin false m e) P v h = absurd (true≢false (sym v.0))
  value-lower (fin true m e) P v h = le-made (1 * 2 ^ k * down e) (m * up e * 1) (sides-le per k n m e v.1 P h)

value-minus : (per k n : ℕ) (x : Float) → HasValue x true n per → T (lt x (fin false 1 (pos k)))
unfolding lt
value-minus per k n nan v = absurd v
value-minus per k n (inf s) v = absurd v
value-minus per k n (fin false m e) v = absurd (true≢false (sym v.0))
value-minus per k n (fin true m e) v = lt→ltb 0 (m * up e * 1 + 1 * 2 ^ k * down e) (omega (arith, some))
  where
    some : 0 < 1 * 2 ^ k * down e
    some = mul-pos (mul-pos (lit< tt) (pow_pos k)) (down_pos e)

-- each register's own
wire-allowed : (t : Float → Bool) (s : Bool) (n per : ℕ) → T (t (round binary32 s n per)) → t (real_from (real_bytes (round binary32 s n per))) ≡ true
wire-allowed t s n per h = ap t (round-wire s n per) ∙ is_true (t (round binary32 s n per)) h

pub preset-back : (n : ℕ) → n < 2 ^ 31 → Within24 n → preset_allowed (real_from (real_bytes (real_of 256 (pos n)))) ≡ true
unfolding real_of from below of_int
preset-back n N S =
    let x = round binary32 false n 256 in
    let v = exact n 8 S (lit≤ tt) (le_trans (le_of_lt N) (lit≤ tt)) false in
    wire-allowed preset_allowed false n 256
    (yes_and (from (pos 0) x) (below (pos 8388608) x) (value-from 256 n x (lit< tt) v) (value-below 256 23 n x v N))

pub timer-back : (z : ℤ) → SFits w32 z → Within24 (nat_abs z) → timer_allowed (real_from (real_bytes (real_of 256 z))) ≡ true
unfolding real_of from below of_int
timer-back (pos n) F S = preset-timer (real_from (real_bytes (round binary32 false n 256))) (preset-back n F.sfits S)
timer-back (negsuc n) F S =
    let x = round binary32 true (suc n) 256 in
    let v = exact (suc n) 8 S (lit≤ tt) (le_trans F.sfits (lit≤ tt)) true in
    wire-allowed timer_allowed true (suc n) 256
    (yes_and (from (neg_ℤ (pos 8388608)) x) (below (pos 8388608) x) (value-lower 256 23 (suc n) x (lit< tt) v F.sfits) (value-minus 256 23 (suc n) x v))

pub operating-back : (n : ℕ) → n < 2 ^ 32 → Within24 n → operating_allowed (real_from (real_bytes (real_of 8 (pos n)))) ≡ true
unfolding real_of from below of_int
operating-back n N S =
    let x = round binary32 false n 8 in
    let v = exact n 3 S (lit≤ tt) (le_of_lt N) false in
    wire-allowed operating_allowed false n 8
    (yes_and (from (pos 0) x) (below (pos 536870912) x) (value-from 8 n x (lit< tt) v) (value-below 8 29 n x v N))

-- ---- a written count has at most 24 significant bits: the Real's own, or it is below 2 ^ 24
module _ (u m : ℕ) (M : m < 16777216) where
  -- where the Real is a whole number of counts
  units-whole : (j c d : ℕ) → 0 < d → m * c * 2 ^ u ≡ m * 2 ^ j * d → Within24 (whole (m * c * 2 ^ u) d)
  units-whole j c d D e = record { digits = m; places = j; few = M; is = ap (λ (y : ℕ). whole y d) e ∙ whole-exact (m * 2 ^ j) d D }

  units_small : (d : ℕ) → 0 < d → 2 ^ u ≤ d → Within24 (whole (m * 1 * 2 ^ u) d)
  units_small d D h = record {
    digits = whole (m * 1 * 2 ^ u) d;
    places = 0;
    few = lt_of_le_of_lt (whole-up-to (m * 1 * 2 ^ u) d m D (le_trans (le_of_eq (ap (λ (y : ℕ). y * 2 ^ u) (mul-one m))) (mul-le-mul_left m h))) M;
    is = sym (mul-one (whole (m * 1 * 2 ^ u) d));
  }

  units-short : (k : ℕ) → Within24 (whole (m * 1 * 2 ^ u) (2 ^ suc k))
  units-short k = elim (decide (suc k) u) [
    | inl l ↦ units-whole (u - suc k) 1 (2 ^ suc k) (pow_pos (suc k)) (ap (λ (y : ℕ). y * 2 ^ u) (mul-one m) ∙ ap (λ (y : ℕ). m * 2 ^ y) (back l)
        ∙ ap (λ (y : ℕ). m * y) (pow-add 2 (u - suc k) (suc k)) ∙ sym (mul_assoc m (2 ^ (u - suc k)) (2 ^ suc k)))
    | inr g ↦ units_small (2 ^ suc k) (pow_pos (suc k)) (pow_mono (le_of_lt g))
  ]
    where
      back : suc k ≤ u → u ≡ u - suc k + suc k
      back l = omega arith

units-24 : (u : ℕ) (x : Float) → T (fits binary32 x) → Within24 (units_of (2 ^ u) x)
unfolding units_of
units-24 u nan F = record { digits = 0; places = 0; few = lit< tt; is = refl }
units-24 u (inf s) F = record { digits = 0; places = 0; few = lit< tt; is = refl }
units-24 u (fin s m (pos k)) F = units-whole u m (digits-few s m (pos k) F) (k + u) (2 ^ k) 1 (lit< tt)
    (mul_assoc m (2 ^ k) (2 ^ u) ∙ ap (λ (y : ℕ). m * y) (sym (pow-add 2 k u)) ∙ sym (mul-one (m * 2 ^ (k + u))))
units-24 u (fin s m (negsuc k)) F = units-short u m (digits-few s m (negsuc k) F) k

count-units : (per : ℕ) (x : Float) → nat_abs (count_of per x) ≡ units_of per x
unfolding count_of units_of
count-units per nan = refl
count-units per (inf s) = refl
count-units per (fin false m e) = refl
count-units per (fin true m e) = nat_abs-neg (pos (whole (m * up e * per) (down e)))

pub count-24 : (u : ℕ) (x : Float) → T (fits binary32 x) → Within24 (nat_abs (count_of (2 ^ u) x))
count-24 u x F = subst Within24 (sym (count-units (2 ^ u) x)) (units-24 u x F)
