use mathlib.Core.Path.{refl}
use Rattle.model.specs.Image.{module_config_allowed}
use Rattle.fields.proofs.module_config_allowed.Goals as goal

pub returns : goal.returns
unfolding module_config_allowed
returns c = refl
