use Rattle.model.specs.Tick.{tick_service}
use Rattle.ticks.proofs.tick_service.Goals as goal

pub returns : goal.returns
unfolding tick_service
returns c = simp c.watchdog_tick-next.ensures
