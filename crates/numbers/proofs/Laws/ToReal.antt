-- n / 2 ^ u as a Real of 32 bits, for an n from 1 up and below 2 ^ 32 with z leading zeros and a u up to 8. Moved up by z places n has 32 digits, of which
-- the Real keeps 24, rounded: that is q.
-- The exponent's field, less one for the leading digit, is 157 - u - z. Where q is 2 ^ 24, the sum of the two carries into the exponent. Assumes nothing.
use Rattle.std.specs.Int.{from_bool}
use mathlib.Core.Path.{◌≡◌, refl, sym, ap, ◌∙◌, subst}
use mathlib.Core.Logic.{inl, inr}
use mathlib.Core.Bool.{Bool, true, false, not, cond}
use Prim.Native.Nat.{ℕ, suc, ◌+◌, ◌-◌, ◌*◌, ◌/◌, ◌%◌, ◌^◌, ◌≤◌, ◌<◌, compare}
use native.Mathlib.Nat.{le_trans, le_of_eq, lt_of_lt_of_le, lt_of_le_of_lt, eq-or-lt_of_le, mul_assoc, mul_comm, mul-le-mul_right, mul-lt-mul_of_pos_right}
use native.Mathlib.Nat.{mul-div_cancel, mul-pos, pow-suc, mod-eq_of_lt, zero-mul, eq-zero-or-pos}
use native.Mathlib.Omega.{arith}
use lib.Dec.{T, lit<}
use lib.Count.{count_leading_zeros, leading_top}
use lib.Pow.{pow-add, pow_pos, pow-lt}
use lib.Ieee.{binary32, top, size, round, nan_bits, to_bits, of_bits}
use lib.Ieee.Bits.{of_bits-to_bits}
use lib.Ieee.Fits.{round-fits, nearest-le}
use lib.Ieee.Nearest.{closest, closest_same, nearest-ge}
use lib.Ieee.Exact.{HasValue}
use lib.Ieee.Order.{drop, kept}
use lib.Ieee.Scale.{grid, overflow, round_same}
use Rattle.numbers.proofs.Laws.Floats.{no-nan-pattern}
use Rattle.numbers.proofs.Laws.Value.{size_is, round-value, value-bits}

-- the sign's bit, as code makes it of the flag
pub sign-bit : (s : Bool) {r : ℕ} → r ≡ from_bool s → r * 2147483648 ≡ cond s 2147483648 0
sign-bit true e = rw e
sign-bit false e = rw e

-- ---- a carry out of the 24 digits
keep-24 : (k : ℕ) → suc (23 + k) - 24 ≡ k
keep-24 k = omega arith

next : (k : ℕ) → 24 + k ≡ suc (23 + k)
next k = omega arith

keep-25 : (k : ℕ) → suc (24 + k) - 24 ≡ suc k
keep-25 k = omega arith

one_more : (k h : ℕ) → h + (suc k) * 8388608 + 8388608 ≡ h + k * 8388608 + 16777216
one_more k h = omega arith

carry : (h q k : ℕ) → 2 ^ 23 ≤ q → q ≤ 2 ^ 24 → h + (size (q * 2 ^ k) - 24) * 8388608 + q * 2 ^ k / 2 ^ (size (q * 2 ^ k) - 24) ≡ h + k * 8388608 + q
carry h q k lo hi = elim (eq-or-lt_of_le hi) [
  | inl e ↦
      let d : size (q * 2 ^ k) - 24 ≡ suc k = ap (λ (x : ℕ). size x - 24) (ap (λ (x : ℕ). x * 2 ^ k) e ∙ sym (pow-add 2 24 k)) ∙ ap (λ (x : ℕ). x - 24)
      (size_is (2 ^ (24 + k)) (24 + k) (le_of_eq refl) (pow-lt (omega arith))) ∙ keep-25 k in
      let g : q * 2 ^ k ≡ 8388608 * 2 ^ suc k = ap (λ (x : ℕ). x * 2 ^ k) e ∙ mul_assoc 8388608 2 (2 ^ k) ∙ ap (λ (x : ℕ). 8388608 * x)
      (mul_comm 2 (2 ^ k) ∙ sym (pow-suc 2 k)) in
      ap (λ (x : ℕ). h + x * 8388608 + q * 2 ^ k / 2 ^ x) d
      ∙ ap (λ (x : ℕ). h + suc k * 8388608 + x) (ap (λ (x : ℕ). x / 2 ^ suc k) g ∙ mul-div_cancel 8388608 (pow_pos (suc k)))
      ∙ one_more k h
      ∙ ap (λ (x : ℕ). h + k * 8388608 + x) (sym e)
  | inr l ↦
      let d : size (q * 2 ^ k) - 24 ≡ k =
      ap (λ (x : ℕ). x - 24)
      (size_is (q * 2 ^ k) (23 + k) (le_trans (le_of_eq (pow-add 2 23 k)) (mul-le-mul_right (2 ^ k) lo))
      (lt_of_lt_of_le (mul-lt-mul_of_pos_right l (pow_pos k)) (le_of_eq (sym (pow-add 2 24 k) ∙ ap (λ (x : ℕ). 2 ^ x) (next k))))) ∙ keep-24 k in
      ap (λ (x : ℕ). h + x * 8388608 + q * 2 ^ k / 2 ^ x) d ∙ ap (λ (x : ℕ). h + k * 8388608 + x) (mul-div_cancel q (pow_pos k))
]

-- ---- the digits that are kept
q-low : (w : ℕ) → 2 ^ 31 ≤ w → 2 ^ 23 ≤ w / 256
q-low w h = omega arith

q-high : (w : ℕ) → w < 2 ^ 32 → suc (w / 256) ≤ 2 ^ 24
q-high w h = omega arith

module _ (n u z j : ℕ) (U : u ≤ 8) (Z : z + suc j ≡ 32) (lo : 2 ^ j ≤ n) (hi : n < 2 ^ suc j) where
  pub wide_low : 2 ^ 31 ≤ n * 2 ^ z
  wide_low = le_trans (le_of_eq (ap (λ (x : ℕ). 2 ^ x) e ∙ pow-add 2 j z)) (mul-le-mul_right (2 ^ z) lo)
    where
      e : 31 ≡ j + z
      e = omega arith

  pub wide_high : n * 2 ^ z < 2 ^ 32
  wide_high = lt_of_lt_of_le (mul-lt-mul_of_pos_right hi (pow_pos z)) (le_of_eq (sym (pow-add 2 (suc j) z) ∙ ap (λ (x : ℕ). 2 ^ x) e))
    where
      e : suc j + z ≡ 32
      e = omega arith

  pub digits_low : 2 ^ 23 ≤ closest (n * 2 ^ z) 256
  digits_low = le_trans (q-low (n * 2 ^ z) wide_low) (nearest-ge (n * 2 ^ z / 256) (compare (n * 2 ^ z % 256 * 2) 256))

  pub digits-high : closest (n * 2 ^ z) 256 ≤ 2 ^ 24
  digits-high = le_trans (nearest-le (n * 2 ^ z / 256) (compare (n * 2 ^ z % 256 * 2) 256)) (q-high (n * 2 ^ z) wide_high)

  -- how many digits `round` drops
  drop-is : drop 24 (n * 2 ^ 149) (2 ^ u) ≡ 157 - u - z
  drop-is = ap (λ (x : ℕ). x - 24) (ap size (ap (λ (x : ℕ). n * 2 ^ x / 2 ^ u) v ∙ ap (λ (x : ℕ). x / 2 ^ u)
      (ap (λ (x : ℕ). n * x) (pow-add 2 (149 - u) u) ∙ sym (mul_assoc n (2 ^ (149 - u)) (2 ^ u))) ∙ mul-div_cancel (n * 2 ^ (149 - u)) (pow_pos u)) ∙ s) ∙ e
    where
      v : 149 ≡ 149 - u + u
      v = omega arith

      s : size (n * 2 ^ (149 - u)) ≡ suc (j + (149 - u))
      s = size_is (n * 2 ^ (149 - u)) (j + (149 - u)) (le_trans (le_of_eq (pow-add 2 j (149 - u))) (mul-le-mul_right (2 ^ (149 - u)) lo))
          (lt_of_lt_of_le (mul-lt-mul_of_pos_right hi (pow_pos (149 - u))) (le_of_eq (sym (pow-add 2 (suc j) (149 - u)) ∙ ap (λ (x : ℕ). 2 ^ x) t)))
        where
          t : suc j + (149 - u) ≡ suc (j + (149 - u))
          t = omega arith

      e : suc (j + (149 - u)) - 24 ≡ 157 - u - z
      e = omega arith

  kept-is : kept 24 (n * 2 ^ 149) (2 ^ u) ≡ closest (n * 2 ^ z) 256
  kept-is = ap (λ (x : ℕ). closest (n * 2 ^ 149) (2 ^ u * 2 ^ x)) drop-is ∙ closest_same (n * 2 ^ 149) (2 ^ u * 2 ^ (157 - u - z)) (n * 2 ^ z) 256
      (mul-pos (pow_pos u) (pow_pos (157 - u - z))) (lit< tt) cross
    where
      all : 157 ≡ z + (u + (157 - u - z))
      all = omega arith

      cross : n * 2 ^ 149 * 256 ≡ n * 2 ^ z * (2 ^ u * 2 ^ (157 - u - z))
      cross = mul_assoc n (2 ^ 149) 256 ∙ ap (λ (x : ℕ). n * 2 ^ x) all ∙ ap (λ (x : ℕ). n * x)
          (pow-add 2 z (u + (157 - u - z)) ∙ ap (λ (x : ℕ). 2 ^ z * x) (pow-add 2 u (157 - u - z))) ∙ sym (mul_assoc n (2 ^ z) (2 ^ u * 2 ^ (157 - u - z)))

  grid-is : grid binary32 n (2 ^ u) ≡ closest (n * 2 ^ z) 256 * 2 ^ (157 - u - z)
  grid-is = ap (λ (x : ℕ). x * 2 ^ drop 24 (n * 2 ^ 149) (2 ^ u)) kept-is ∙ ap (λ (x : ℕ). closest (n * 2 ^ z) 256 * 2 ^ x) drop-is

  in-range : grid binary32 n (2 ^ u) < overflow binary32
  in-range = lt_of_le_of_lt (le_of_eq grid-is) (lt_of_le_of_lt (mul-le-mul_right (2 ^ (157 - u - z)) digits-high)
      (lt_of_le_of_lt (le_of_eq (sym (pow-add 2 24 (157 - u - z)))) (pow-lt e)))
    where
      e : 24 + (157 - u - z) < 277
      e = omega arith

  pub real_bits : (s : Bool) → to_bits binary32 (round binary32 s n (2 ^ u)) ≡ cond s (top binary32) 0 + (157 - u - z) * 8388608 + closest (n * 2 ^ z) 256
  real_bits s =
      value-bits binary32 (round binary32 s n (2 ^ u)) s (closest (n * 2 ^ z) 256 * 2 ^ (157 - u - z))
      (subst (λ (g : ℕ). HasValue (round binary32 s n (2 ^ u)) s g (2 ^ 149)) grid-is (round-value binary32 s n (2 ^ u) in-range))
      ∙ carry (cond s (top binary32) 0) (closest (n * 2 ^ z) 256) (157 - u - z) digits_low digits-high

  pub real-is : (s : Bool) → of_bits binary32 (cond s 2147483648 0 + (157 - u - z) * 8388608 + closest (n * 2 ^ z) 256) ≡ round binary32 s n (2 ^ u)
  real-is s = ap (of_bits binary32) (sym (real_bits s)) ∙ of_bits-to_bits binary32 (round binary32 s n (2 ^ u)) (round-fits binary32 s n (2 ^ u))

-- ---- by the count of n's leading zeros
wide : (x : ℕ) → x < 2 ^ 32 → x < 18446744073709551616
wide x h = omega arith

module _ (n u : ℕ) (N : 0 < n) (B : n < 2 ^ 32) (U : u ≤ 8) where
  -- moving n up loses nothing
  pub moved : n * 2 ^ count_leading_zeros 32 n % 18446744073709551616 ≡ n * 2 ^ count_leading_zeros 32 n
  moved = let t = leading_top 32 n N B in mod-eq_of_lt (wide (n * 2 ^ count_leading_zeros 32 n) (wide_high n u (count_leading_zeros 32 n) t.0 U t.1 t.2 t.3))

  pub moved-high : n * 2 ^ count_leading_zeros 32 n % 18446744073709551616 < 2 ^ 32
  moved-high = let t = leading_top 32 n N B in rw moved (wide_high n u (count_leading_zeros 32 n) t.0 U t.1 t.2 t.3)

  pub rounded-high : closest (n * 2 ^ count_leading_zeros 32 n % 18446744073709551616) 256 ≤ 2 ^ 24
  rounded-high = let t = leading_top 32 n N B in rw moved (digits-high n u (count_leading_zeros 32 n) t.0 U t.1 t.2 t.3)

  pub real-made : (s : Bool) → of_bits binary32 (cond s 2147483648 0 + (157 - u - count_leading_zeros 32 n) * 8388608 + closest
      (n * 2 ^ count_leading_zeros 32 n % 18446744073709551616) 256) ≡ round binary32 s n (2 ^ u)
  real-made s = let t = leading_top 32 n N B in rw moved (real-is n u (count_leading_zeros 32 n) t.0 U t.1 t.2 t.3 s)

-- zero keeps its sign
pub real-zero : (s : Bool) (n u : ℕ) → n ≡ 0 → of_bits binary32 (cond s 2147483648 0) ≡ round binary32 s n (2 ^ u)
unfolding of_bits round
real-zero true n u e = round_same binary32 true 0 1 0 (2 ^ u) (lit< tt) (pow_pos u) (zero-mul (2 ^ u)) ∙ ap (λ (x : ℕ). round binary32 true x (2 ^ u)) (sym e)
real-zero false n u e = round_same binary32 false 0 1 0 (2 ^ u) (lit< tt) (pow_pos u) (zero-mul (2 ^ u)) ∙ ap (λ (x : ℕ). round binary32 false x (2 ^ u)) (sym e)

-- ---- the bits that are put together: they fit, and are no NaN's
pub zero_pattern : (s : Bool) → T (not (nan_bits binary32 (cond s 2147483648 0)))
unfolding nan_bits
zero_pattern true = tt
zero_pattern false = tt

module _ (e q : ℕ) (E : e ≤ 157) (Q : q ≤ 16777216) where
  pub field_fits : (s : Bool) → cond s 2147483648 0 + e * 8388608 < 4294967296
  field_fits true = omega arith
  field_fits false = omega arith

  pub pattern-fits : (s : Bool) → cond s 2147483648 0 + e * 8388608 + q < 4294967296
  pattern-fits true = omega arith
  pattern-fits false = omega arith

  pub no-nan-made : (s : Bool) → T (not (nan_bits binary32 (cond s 2147483648 0 + e * 8388608 + q)))
  no-nan-made true = no-nan-pattern (2147483648 + e * 8388608 + q) (omega arith)
  no-nan-made false = no-nan-pattern (0 + e * 8388608 + q) (omega arith)

pub above_zero : {n : ℕ} → (n ≡ 0 → ⊥) → 0 < n
above_zero {n} h = elim (eq-zero-or-pos n) [ inl e ↦ absurd (h e) | inr p ↦ p ]
