use Rattle.std.proofs.Common.{rules}
use mathlib.Core.Path.{sym, ap, ap₂, ◌∙◌, subst}
use mathlib.Core.Bool.{not}
use Prim.Native.Nat.{ℕ, ◌+◌, ◌-◌, ◌*◌, ◌≤◌, ◌<◌}
use native.Mathlib.Omega.{arith}
use lib.Dec.{T, lit<}
use lib.Count.{count_leading_zeros, leading_le}
use lib.Ieee.{binary32, nan_bits, of_bits}
use Rattle.numbers.proofs.Laws.ToReal.{sign-bit, above_zero, moved-high, rounded-high, real-made, real-zero, zero_pattern, field_fits, pattern-fits, no-nan-made}
use Rattle.numbers.proofs.times.real_of.Goals as goal

pub float_from_bits-result : goal.float_from_bits-result
float_from_bits-result c = subst (λ (b : ℕ). T (not (nan_bits binary32 b))) (sym (sign-bit c.args.negative c.from-sign.ensures)) (zero_pattern c.args.negative)

pub returns-then-n-eq0 : goal.returns-then-n-eq0
returns-then-n-eq0 c =
    let s = c in
    ap (of_bits binary32) (sign-bit c.args.negative c.from-sign.ensures) ∙ real-zero s.args.negative s.args.n s.args.unit.bits c.if-n-eq0.true

pub overflow_cast-zeros : goal.overflow_cast-zeros
overflow_cast-zeros c = omega (arith, leading_le 32 c.args.n)

pub overflow_shl-n : goal.overflow_shl-n
overflow_shl-n c = omega (arith, leading_le 32 c.args.n)

pub nearest_quotient-digits-requires : goal.nearest_quotient-digits-requires
nearest_quotient-digits-requires c =
    let s = c in
    (omega (arith, moved-high s.args.n s.args.unit.bits (above_zero c.if-n-eq0.false) s.ranges.n.fits (search rules)), lit< tt, lit< tt)

pub overflow_cast-digits : goal.overflow_cast-digits
overflow_cast-digits c =
    let high : c.nearest_quotient-digits.result ≤ 16777216 =
    subst (λ (q : ℕ). q ≤ 16777216) (sym c.nearest_quotient-digits.ensures)
    (rounded-high c.args.n c.args.unit.bits (above_zero c.if-n-eq0.false) c.ranges.n.fits (search rules))
    in
    omega (arith, high)

pub overflow_sub-result-2 : goal.overflow_sub-result-2
overflow_sub-result-2 c = omega (arith, leading_le 32 c.args.n)

pub overflow_add-result : goal.overflow_add-result
overflow_add-result c =
    let exponent : ℕ = 157 - c.args.unit.bits - count_leading_zeros 32 c.args.n in
    let exponent-le : exponent ≤ 157 = omega arith in
    let high : c.nearest_quotient-digits.result ≤ 16777216 =
    subst (λ (q : ℕ). q ≤ 16777216) (sym c.nearest_quotient-digits.ensures)
    (rounded-high c.args.n c.args.unit.bits (above_zero c.if-n-eq0.false) c.ranges.n.fits (search rules))
    in
    record {
      fits = subst (λ (b : ℕ). b + exponent * 8388608 < 4294967296) (sym (sign-bit c.args.negative c.from-sign.ensures))
          (field_fits exponent c.nearest_quotient-digits.result exponent-le high c.args.negative);
    }

pub overflow_add-result-2 : goal.overflow_add-result-2
overflow_add-result-2 c =
    let exponent : ℕ = 157 - c.args.unit.bits - count_leading_zeros 32 c.args.n in
    let exponent-le : exponent ≤ 157 = omega arith in
    let high : c.nearest_quotient-digits.result ≤ 16777216 =
    subst (λ (q : ℕ). q ≤ 16777216) (sym c.nearest_quotient-digits.ensures)
    (rounded-high c.args.n c.args.unit.bits (above_zero c.if-n-eq0.false) c.ranges.n.fits (search rules))
    in
    record {
      fits = subst (λ (b : ℕ). b + exponent * 8388608 + c.nearest_quotient-digits.result < 4294967296)
          (sym (sign-bit c.args.negative c.from-sign.ensures)) (pattern-fits exponent c.nearest_quotient-digits.result exponent-le high
          c.args.negative);
    }

pub float_from_bits-result-2 : goal.float_from_bits-result-2
float_from_bits-result-2 c =
    let exponent : ℕ = 157 - c.args.unit.bits - count_leading_zeros 32 c.args.n in
    let exponent-le : exponent ≤ 157 = omega arith in
    let high : c.nearest_quotient-digits.result ≤ 16777216 =
    subst (λ (q : ℕ). q ≤ 16777216) (sym c.nearest_quotient-digits.ensures)
    (rounded-high c.args.n c.args.unit.bits (above_zero c.if-n-eq0.false) c.ranges.n.fits (search rules))
    in
    subst (λ (b : ℕ). T (not (nan_bits binary32 (b + exponent * 8388608 + c.nearest_quotient-digits.result))))
    (sym (sign-bit c.args.negative c.from-sign.ensures)) (no-nan-made exponent c.nearest_quotient-digits.result exponent-le high
    c.args.negative)

pub returns : goal.returns
returns c =
    let exponent : ℕ = 157 - c.args.unit.bits - count_leading_zeros 32 c.args.n in
    let s = c in
    ap₂ (λ (b q : ℕ). of_bits binary32 (b + exponent * 8388608 + q)) (sign-bit c.args.negative c.from-sign.ensures) c.nearest_quotient-digits.ensures
    ∙ real-made s.args.n s.args.unit.bits (above_zero c.if-n-eq0.false) s.ranges.n.fits (search rules) s.args.negative
