use mathlib.Core.Path.{refl}
use Rattle.model.specs.Tick.{save_due}
use Rattle.ticks.proofs.save_due.Goals as goal

pub returns : goal.returns
unfolding save_due
returns c = refl
