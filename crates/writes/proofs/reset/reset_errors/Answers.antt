use mathlib.Core.Path.{refl}
use Rattle.model.specs.Writes.{errors_written}
use Rattle.writes.proofs.reset.reset_errors.Goals as goal

pub returns : goal.returns
unfolding errors_written
returns c = refl
