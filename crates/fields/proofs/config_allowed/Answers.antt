use Rattle.model.specs.Image.{config_allowed}
use Rattle.fields.proofs.config_allowed.Goals as goal

pub returns : goal.returns
unfolding config_allowed
returns c = simp c.function_allowed.ensures
