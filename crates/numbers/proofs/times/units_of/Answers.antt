use Rattle.std.proofs.Common.{rules}
use mathlib.Core.Path.{sym, ◌∙◌, subst}
use native.Mathlib.Omega.{arith}
use lib.Dec.{T}
use lib.Ieee.{binary32, fits}
use Rattle.numbers.proofs.Laws.FromReal.{under-no-nan, field-le, units-zero, shift-pos, shift-lt, units-shifted}
use Rattle.numbers.proofs.times.units_of.Goals as goal

pub float_to_bits-bits : goal.float_to_bits-bits
float_to_bits-bits c = under-no-nan _ _ c.args.x c.requires

pub returns-then-exponent-lt100 : goal.returns-then-exponent-lt100
returns-then-exponent-lt100 c =
    -- what owning an `f32` tells: the format holds it
    let held : T (fits binary32 c.args.x) = subst T (sym c.well_formed.0.1) tt in
    let s = c in
    units-zero s.args.x s.args.unit.bits held (search rules) s.requires c.if-exponent-lt100.true

pub overflow_sub-divisor-2 : goal.overflow_sub-divisor-2
overflow_sub-divisor-2 c =
    let held : T (fits binary32 c.args.x) = subst T (sym c.well_formed.0.1) tt in
    let s = c in
    field-le s.args.x s.args.unit.bits held (search rules) s.requires

pub nearest_quotient-requires : goal.nearest_quotient-requires
nearest_quotient-requires c =
    let held : T (fits binary32 c.args.x) = subst T (sym c.well_formed.0.1) tt in
    let s = c in (
      omega arith,
      shift-pos s.args.x s.args.unit.bits held (search rules) s.requires c.if-exponent-lt100.false,
      shift-lt s.args.x s.args.unit.bits held
          (search rules) s.requires c.if-exponent-lt100.false,
    )

pub returns : goal.returns
returns c =
    let held : T (fits binary32 c.args.x) = subst T (sym c.well_formed.0.1) tt in
    let s = c in
    c.nearest_quotient.ensures ∙ units-shifted s.args.x s.args.unit.bits held (search rules) s.requires
    c.if-exponent-lt100.false
