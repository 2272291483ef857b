use Rattle.std.proofs.Common.{rules, ◌≡◌, Err, arith}
use mir.Facts.{to_z-of_z}
use borrow.Author.Tests.{le-leb, lt-leb}
use Rattle.charge.specs.declared.ChargeRefusal.TheVariants.{Blocks}
use Rattle.charge.specs.Charge.{charged}
use Rattle.charge.proofs.Laws.Blocks.{litres-held}
use Rattle.charge.proofs.charge.Goals.{then-litres_per_pulse-lt1-via-then-litres_per_pulse-lt1, then-litres_per_pulse-lt1-via-else-litres_per_pulse-lt1+then-litres_per_pulse-gt-MOST_LITRES_PER_PULSE}
use Rattle.charge.proofs.charge.Goals as goal

pub returns-then-litres_per_pulse-lt1 : goal.returns-then-litres_per_pulse-lt1
unfolding charged
returns-then-litres_per_pulse-lt1 c =
    elim c.then-litres_per_pulse-lt1.branch [
      | then-litres_per_pulse-lt1-via-then-litres_per_pulse-lt1 w ↦ simp (lt-leb 1 _ w.if-litres_per_pulse-lt1.true)
      | then-litres_per_pulse-lt1-via-else-litres_per_pulse-lt1+then-litres_per_pulse-gt-MOST_LITRES_PER_PULSE w ↦
          simp (le-leb 1 _ w.if-litres_per_pulse-lt1.false, lt-leb _ 10000 w.if-litres_per_pulse-gt-MOST_LITRES_PER_PULSE.true)
    ]

pub returns-in_err-blocks : goal.returns-in_err-blocks
unfolding charged
returns-in_err-blocks c =
    let why = c.in_err-blocks.ensures.refused in
    let e : c.from_residual.result ≡ Err Blocks = search (rules, why.1) in
    simp (
      e,
      why.0,
      le-leb 1 _ c.if-litres_per_pulse-lt1.false,
      le-leb _ 10000 c.if-litres_per_pulse-gt-MOST_LITRES_PER_PULSE.false,
    )

pub overflow_mul-litres : goal.overflow_mul-litres
overflow_mul-litres c = omega (arith, litres-held _ _ c.pulses_between-pulses.type_inv c.if-litres_per_pulse-gt-MOST_LITRES_PER_PULSE.false)

pub fill-requires : goal.fill-requires
fill-requires c = litres-held _ _ c.pulses_between-pulses.type_inv c.if-litres_per_pulse-gt-MOST_LITRES_PER_PULSE.false

pub overflow_add-result : goal.overflow_add-result
overflow_add-result c = omega (arith, c.fill.ensures.1)

pub returns : goal.returns
unfolding charged
returns c =
    let held = c.in_ok-blocks.ensures.allowed in
    simp (
      c.fill.ensures.0,
      c.pulses_between-pulses.ensures,
      to_z-of_z c.ranges.earlier,
      to_z-of_z c.ranges.later,
      held.0,
      held.1,
      held.2,
      le-leb 1 _ c.if-litres_per_pulse-lt1.false,
      le-leb _ 10000 c.if-litres_per_pulse-gt-MOST_LITRES_PER_PULSE.false,
    )
