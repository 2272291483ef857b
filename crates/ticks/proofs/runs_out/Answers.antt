use Rattle.model.specs.Tick.{runs_out}
use Rattle.ticks.proofs.runs_out.Goals as goal

pub returns : goal.returns
unfolding runs_out
returns c = simp (c.watchdog_on.ensures, c.is_zero.ensures, c.watchdog_tick.ensures)
