use mathlib.Core.Path.{sym, ◌∙◌}
use Prim.Native.Nat.{◌+◌, ◌<◌}
use native.Mathlib.Omega.{arith}
use borrow.Author.Tests.{leb-false}
use Rattle.model.specs.Tick.{save_due, tick_shared}
use Rattle.ticks.proofs.tick_shared.Goals as goal

pub returns-then-save_due : goal.returns-then-save_due
unfolding tick_shared
returns-then-save_due c = simp (sym c.save_due.ensures ∙ c.if-save_due.true, c.tick-next.ensures, c.free_run_tick-next.ensures)

pub overflow_add-next : goal.overflow_add-next
unfolding save_due
overflow_add-next c =
    let n = c.args.s.save_ticks in
    let l : n < 1151999 = leb-false 1151999 n (sym c.save_due.ensures ∙ c.if-save_due.false) in
    let f : n + 1 < 4294967296 = omega arith in
    record { fits = f }

pub returns : goal.returns
unfolding tick_shared
returns c = simp (sym c.save_due.ensures ∙ c.if-save_due.false, c.tick-next.ensures, c.free_run_tick-next.ensures)
