-- A finite Real's size in units of 2 ^ -u as a whole number, from the fields of its bits, for a u up to 8: it is s * 256 / 2 ^ (158 - u - x), with x the
-- exponent's field and s the 24 digits. Assumes nothing.
use mathlib.Core.Path.{◌≡◌, sym, ap, ◌∙◌, subst}
use mathlib.Core.Bool.{Bool, true, false, not, cond}
use Prim.Native.Nat.{ℕ, zero, suc, ◌+◌, ◌-◌, ◌*◌, ◌/◌, ◌%◌, ◌^◌, ◌≤◌, ◌<◌, zero-le}
use native.Mathlib.Nat.{le_trans, le_of_eq, lt_of_lt_of_le, lt_of_le_of_lt, lt_of_not-le, not-le_of_lt, mul_assoc, mul-one, one-mul, mul_right_comm}
use native.Mathlib.Nat.{mul-le-mul_right, mul-lt-mul_of_pos_right, lt_of_mul-lt-mul_right, mod-lt, mod-eq_of_lt, le-add_right}
use native.Mathlib.Omega.{arith}
use lib.Dec.{T, leb, eqb, ltb→lt, lit<, lit≤}
use lib.Pow.{pow-add, pow_pos, pow_mono, pow-lt, mod-mod-pow}
use lib.Ieee.{Float, nan, inf, fin, binary32, up, down, odd, is_nan, fits, to_bits, of_bits, of_fields}
use lib.Ieee.Bits.{of_bits-to_bits}
use lib.Ieee.Fits.{down_pos}
use lib.Ieee.Nearest.{closest}
use lib.Ieee.Exact.{HasValue, odd_sign}
use lib.Ieee.Scale.{finite}
use Rattle.numbers.specs.Reals.{whole, units_of, under}
use Rattle.numbers.proofs.Laws.Whole.{whole-closest, whole_same, whole-small}

-- ---- the fields of a finite value's bits
digits : ℕ → ℕ → ℕ
digits zero t = t * 2 ^ 0
digits (suc x) t = (8388608 + t) * 2 ^ x

fields_value : (s : Bool) (x t : ℕ) → T (finite (of_fields binary32 s x t)) → HasValue (of_fields binary32 s x t) s (digits x t) (2 ^ 149)
unfolding of_fields digits
fields_value s zero t h = odd_sign 24 s t 0 149
fields_value s (suc x) t h = go (eqb (suc x) 255) (eqb t 0) h
  where
    go : (a b : Bool) → T (finite (cond a (cond b (inf s) nan) (odd 24 s (8388608 + t) x 149))) → HasValue
        (cond a (cond b (inf s) nan) (odd 24 s (8388608 + t) x 149)) s ((8388608 + t) * 2 ^ x) (2 ^ 149)
    go true true k = absurd k
    go true false k = absurd k
    go false b k = odd_sign 24 s (8388608 + t) x 149

under-finite : (per high : ℕ) (x : Float) → T (under per high x) → T (finite x)
unfolding under
under-finite per high nan h = h
under-finite per high (inf s) h = h
under-finite per high (fin s m e) h = tt

pub under-no-nan : (per high : ℕ) (x : Float) → T (under per high x) → T (not (is_nan x))
unfolding under is_nan
under-no-nan per high nan h = absurd h
under-no-nan per high (inf s) h = tt
under-no-nan per high (fin s m e) h = tt

-- ---- by the value
units-value : (per : ℕ) (x : Float) (s : Bool) (a : ℕ) → HasValue x s a (2 ^ 149) → units_of per x ≡ whole (a * per) (2 ^ 149)
unfolding units_of
units-value per nan s a v = absurd v
units-value per (inf t) s a v = absurd v
units-value per (fin t m e) s a v =
    whole_same (m * up e * per) (down e) (a * per) (2 ^ 149) (down_pos e) (pow_pos 149)
    (mul_right_comm (m * up e) per (2 ^ 149) ∙ ap (λ (y : ℕ). y * per) v.1 ∙ mul_right_comm a (down e) per)

under-value : (per high : ℕ) (x : Float) (s : Bool) (a : ℕ) → HasValue x s a (2 ^ 149) → T (under per high x) → a * per < high * 2 ^ 149
unfolding under
under-value per high nan s a v h = absurd v
under-value per high (inf t) s a v h = absurd v
under-value per high (fin t m e) s a v h =
    lt_of_mul-lt-mul_right (down e)
    (lt_of_le_of_lt (le_of_eq (mul_right_comm a per (down e) ∙ ap (λ (y : ℕ). y * per) (sym v.1) ∙ mul_right_comm (m * up e) (2 ^ 149) per))
    (lt_of_lt_of_le (mul-lt-mul_of_pos_right (ltb→lt (m * up e * per) (high * down e) h) (pow_pos 149)) (le_of_eq (mul_right_comm high (down e) (2 ^ 149)))))

-- ---- the exponent's field
field-high : (x t u : ℕ) → u ≤ 158 → digits x t * 2 ^ u < 2 ^ 181 → x ≤ 158 - u
unfolding digits
field-high zero t u U h = zero-le
field-high (suc x) t u U h = lt_of_not-le (λ (g : 158 - u ≤ x). not-le_of_lt h (big g))
  where
    far : 158 - u ≤ x → 181 ≤ 23 + x + u
    far g = omega arith

    big : 158 - u ≤ x → 2 ^ 181 ≤ (8388608 + t) * 2 ^ x * 2 ^ u
    big g =
        le_trans (pow_mono (far g))
        (le_trans (le_of_eq (pow-add 2 (23 + x) u ∙ ap (λ (y : ℕ). y * 2 ^ u) (pow-add 2 23 x)))
        (mul-le-mul_right (2 ^ u) (mul-le-mul_right (2 ^ x) (le-add_right 8388608 t))))

-- ---- the whole number: none where the field is below 100
pow_step : (a b k : ℕ) → a < b → a * 2 ^ k < b * 2 ^ k
pow_step a b k h = mul-lt-mul_of_pos_right h (pow_pos k)

small : (x t u : ℕ) → u ≤ 8 → t < 8388608 → x < 100 → digits x t * 2 ^ u * 2 < 2 ^ 149
unfolding digits
small zero t u U H X = lt_of_lt_of_le (mul-lt-mul_of_pos_right (lt_of_lt_of_le (pow_step (t * 1) 8388608 u (lt_of_le_of_lt (le_of_eq (mul-one t)) H))
    (le_of_eq (sym (pow-add 2 23 u)))) (lit< tt)) (le_trans (mul-le-mul_right 2 (pow_mono e)) (lit≤ tt))
  where
    e : 23 + u ≤ 100
    e = omega arith
small (suc x) t u U H X =
    lt_of_lt_of_le
    (mul-lt-mul_of_pos_right (lt_of_lt_of_le (pow_step ((8388608 + t) * 2 ^ x) (16777216 * 2 ^ x) u (pow_step (8388608 + t) 16777216 x d))
    (le_of_eq (ap (λ (y : ℕ). y * 2 ^ u) (sym (pow-add 2 24 x)) ∙ sym (pow-add 2 (24 + x) u)))) (lit< tt))
    (le_trans (mul-le-mul_right 2 (pow_mono e)) (lit≤ tt))
  where
    d : 8388608 + t < 16777216
    d = omega arith

    e : 24 + x + u ≤ 140
    e = omega arith

-- the shifted digits
shifted : (x t u : ℕ) → u ≤ 8 → 100 ≤ x → x ≤ 158 - u → whole ((8388608 + t) * 256) (2 ^ (158 - u - x)) ≡ whole (digits x t * 2 ^ u) (2 ^ 149)
unfolding digits
shifted zero t u U L X = absurd (no L)
  where
    no : 100 ≤ 0 → ⊥
    no h = omega arith
shifted (suc x) t u U L X =
    whole_same ((8388608 + t) * 256) (2 ^ (158 - u - suc x)) ((8388608 + t) * 2 ^ x * 2 ^ u) (2 ^ 149) (pow_pos (158 - u - suc x)) (pow_pos 149)
    (mul_assoc (8388608 + t) 256 (2 ^ 149) ∙ ap (λ (y : ℕ). (8388608 + t) * 2 ^ y) e ∙ ap (λ (y : ℕ). (8388608 + t) * y)
    (pow-add 2 (x + u) (158 - u - suc x) ∙ ap (λ (y : ℕ). y * 2 ^ (158 - u - suc x)) (pow-add 2 x u)) ∙ sym
    (mul_assoc (8388608 + t) (2 ^ x * 2 ^ u) (2 ^ (158 - u - suc x))) ∙ ap (λ (y : ℕ). y * 2 ^ (158 - u - suc x))
    (sym (mul_assoc (8388608 + t) (2 ^ x) (2 ^ u))))
  where
    e : 157 ≡ x + u + (158 - u - suc x)
    e = omega arith

-- ---- of an `f32` x that fits, by its bits: the sign, the exponent's field and the digits
abbrev pub expo : Float → ℕ
expo x = to_bits binary32 x % 2147483648 / 8388608

abbrev pub frac : Float → ℕ
frac x = to_bits binary32 x % 8388608

abbrev sign : Float → Bool
sign x = leb 2147483648 (to_bits binary32 x)

module _ (x : Float) (u : ℕ) (F : T (fits binary32 x)) (U : u ≤ 8) (R : T (under (2 ^ u) 4294967296 x)) where
  value : HasValue x (sign x) (digits (expo x) (frac x)) (2 ^ 149)
  unfolding of_bits
  value =
      subst (λ (y : Float). HasValue y (sign x) (digits (expo x) (frac x)) (2 ^ 149)) (of_bits-to_bits binary32 x F)
      (fields_value (sign x) (expo x) (frac x)
      (subst (λ (y : Float). T (finite y)) (sym (of_bits-to_bits binary32 x F)) (under-finite (2 ^ u) 4294967296 x R)))

  pub field-le : expo x ≤ 158 - u
  field-le = field-high (expo x) (frac x) u (le_trans U (lit≤ tt)) (under-value (2 ^ u) 4294967296 x (sign x) (digits (expo x) (frac x)) value R)

  pub units-zero : expo x < 100 → 0 ≡ units_of (2 ^ u) x
  units-zero h =
      sym (units-value (2 ^ u) x (sign x) (digits (expo x) (frac x)) value
      ∙ whole-small (digits (expo x) (frac x) * 2 ^ u) (2 ^ 149) (small (expo x) (frac x) u U (mod-lt (to_bits binary32 x) (lit< tt)) h))

  pub shift_is : 100 ≤ expo x → 1 * 2 ^ (158 - u - expo x) % 18446744073709551616 ≡ 2 ^ (158 - u - expo x)
  shift_is h = ap (λ (y : ℕ). y % 18446744073709551616) (one-mul (2 ^ k)) ∙ mod-eq_of_lt (pow-lt few)
    where
      k : ℕ
      k = 158 - u - expo x

      few : 158 - u - expo x < 64
      few = omega arith

  pub shift-pos : 100 ≤ expo x → 0 < 1 * 2 ^ (158 - u - expo x) % 18446744073709551616
  shift-pos h = rw shift_is (pow_pos (158 - u - expo x))

  pub shift-lt : 100 ≤ expo x → 1 * 2 ^ (158 - u - expo x) % 18446744073709551616 < 2 ^ 63
  shift-lt h = rw shift_is (pow-lt few)
    where
      few : 158 - u - expo x < 63
      few = omega arith

  units-digits : 100 ≤ expo x
      → whole ((8388608 + frac x) * 256) (2 ^ (158 - u - expo x)) ≡ units_of (2 ^ u) x
  units-digits h =
      shifted (expo x) (frac x) u U h field-le
      ∙ sym (units-value (2 ^ u) x (sign x) (digits (expo x) (frac x)) value)

  pub units-shifted : 100 ≤ expo x
      → closest ((8388608 + to_bits binary32 x % 2147483648 % 8388608) * 256) (1 * 2 ^ (158 - u - expo x) % 18446744073709551616) ≡ units_of (2 ^ u) x
  units-shifted h =
      whole-closest ((8388608 + to_bits binary32 x % 2147483648 % 8388608) * 256) (1 * 2 ^ (158 - u - expo x) % 18446744073709551616)
      ∙ ap (λ (y : ℕ). whole ((8388608 + to_bits binary32 x % 2147483648 % 8388608) * 256) y) (shift_is h)
      ∙ ap (λ (y : ℕ). whole ((8388608 + y) * 256) (2 ^ (158 - u - expo x))) (mod-mod-pow (to_bits binary32 x) 8 23)
      ∙ units-digits h
