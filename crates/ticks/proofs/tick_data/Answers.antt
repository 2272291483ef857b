use borrow.Author.Tests.{lt-ltb, le-ltb}
use Rattle.model.specs.Tick.{data_timers_run, data_ticked}
use Rattle.ticks.specs.Begun.{data_ticked_by}
use Rattle.ticks.proofs.tick_data.Goals as goal

pub returns-then-b-gt0 : goal.returns-then-b-gt0
unfolding data_ticked_by data_ticked data_timers_run
returns-then-b-gt0 c = simp (
  lt-ltb 0 _ c.if-b-gt0.true,
  c.out_timer_tick-2.ensures,
  c.out_timer_tick.ensures,
)

pub returns-else-b-gt0 : goal.returns-else-b-gt0
unfolding data_ticked_by data_ticked data_timers_run
returns-else-b-gt0 c = simp (le-ltb 0 _ c.if-b-gt0.false, c.out_timer_tick-2.ensures, c.out_timer_tick.ensures)
