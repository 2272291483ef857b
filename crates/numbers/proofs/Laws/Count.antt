-- A magnitude with its sign: of a Real that becomes a count, and of a count that becomes a Real. Assumes nothing.
use mathlib.Core.Path.{◌≡◌, refl, sym, ap, ◌∙◌, subst}
use mathlib.Core.Bool.{Bool, true, false}
use Prim.Native.Nat.{ℕ, zero, suc, ◌+◌, ◌*◌, ◌≤◌, ◌<◌, zero-le}
use native.Mathlib.Nat.{zero-lt-suc, le-add_right, le_trans, le_of_eq, lt_of_lt_of_le, mul-one, zero-mul, mul-pos}
use native.Mathlib.Omega.{arith}
use lib.Dec.{ltb}
use lib.IntN.{ℤ, pos, negsuc, neg_ℤ, nat_abs, ◌-ℤ◌, +ℤ_idl}
use lib.Signed.{mag, lt_z}
use lib.Ieee.{Float, nan, inf, fin, binary32, up, down, lt, of_bits, round}
use lib.Ieee.Fits.{up_pos, down_pos}
use mir.Syntax.{w64}
use mir.Val.{SFits, to_z, of_z}
use mir.ValLaws.{to_z-of_z, to_z_pos}
use borrow.Author.Tests.{le-ltb, lt-ltb}
use Rattle.numbers.specs.Reals.{signed, whole, units_of, count_of, real_of}
use Rattle.numbers.proofs.Laws.Whole.{whole-small}

-- ---- a Real that becomes a count: its sign, by a comparison with 0
nothing : (a b : ℕ) → 0 * a ≤ b
nothing a b = le_trans (le_of_eq (zero-mul a)) zero-le

no_sign : (b : Bool) → signed b 0 ≡ pos 0
no_sign true = refl
no_sign false = refl

pub sign-test : (per : ℕ) (x : Float) → signed (lt x (of_bits binary32 0)) (units_of per x) ≡ count_of per x
unfolding count_of units_of lt of_bits
sign-test per nan = refl
sign-test per (inf true) = refl
sign-test per (inf false) = refl
sign-test per (fin false m e) = ap (λ (b : Bool). signed b (whole (m * up e * per) (down e))) (le-ltb (m * up e * 1) (0 * down e) (nothing (down e) (m * up e * 1)))
sign-test per (fin true zero e) =
    let z : whole (0 * up e * per) (down e) ≡ 0 = ap (λ (y : ℕ). whole (y * per) (down e)) (zero-mul (up e)) ∙ ap (λ (y : ℕ). whole y (down e)) (zero-mul per)
    ∙ whole-small 0 (down e) (down_pos e) in
    ap (signed (ltb 0 (0 * up e * 1 + 0 * down e))) z ∙ no_sign (ltb 0 (0 * up e * 1 + 0 * down e)) ∙ sym (ap (λ (y : ℕ). neg_ℤ (pos y)) z)
sign-test per (fin true (suc m) e) =
    ap (λ (b : Bool). signed b (whole (suc m * up e * per) (down e)))
    (lt-ltb 0 (suc m * up e * 1 + 0 * down e) (lt_of_lt_of_le (lt_of_lt_of_le (mul-pos (zero-lt-suc m) (up_pos e)) (le_of_eq (sym (mul-one (suc m * up e)))))
    (le-add_right (suc m * up e * 1) (0 * down e))))

-- ---- a magnitude up to 2 ^ 32 in a signed local of 64 bits, and less than 0
mag-minus : (n : ℕ) → n ≤ 4294967296 → mag (neg_ℤ (pos n)) < 9223372036854775808
mag-minus zero h = omega arith
mag-minus (suc n) h = omega arith

module _ (n : ℕ) (N : n ≤ 4294967296) where
  held : n < 9223372036854775808
  held = omega arith

  pub plus-fits : SFits w64 (pos n)
  plus-fits = record { sfits = held }

  pub plus : to_z w64 n ≡ signed false n
  plus = to_z_pos w64 n held

  minus : pos 0 -ℤ to_z w64 n ≡ signed true n
  minus = ap (λ (z : ℤ). pos 0 -ℤ z) plus ∙ +ℤ_idl (neg_ℤ (pos n))

  pub minus-fits : SFits w64 (pos 0 -ℤ to_z w64 n)
  minus-fits = subst (SFits w64) (sym minus) (record { sfits = mag-minus n N })

  pub minus-read : to_z w64 (of_z w64 (pos 0 -ℤ to_z w64 n)) ≡ signed true n
  minus-read = to_z-of_z w64 (pos 0 -ℤ to_z w64 n) minus-fits ∙ minus

-- ---- a count that becomes a Real
pub real-signed : (per : ℕ) (z : ℤ) → round binary32 (lt_z z (pos 0)) (nat_abs z) per ≡ real_of per z
unfolding real_of
real-signed per (pos n) = ap (λ (b : Bool). round binary32 b n per) (le-ltb n 0 zero-le)
real-signed per (negsuc n) = refl
