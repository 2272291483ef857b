use mathlib.Core.Path.{refl}
use Rattle.model.specs.Errors.{service_acknowledged}
use Rattle.errors.proofs.acknowledge_service.Goals as goal

pub returns : goal.returns
unfolding service_acknowledged
returns c = refl
