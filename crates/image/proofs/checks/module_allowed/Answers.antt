use Rattle.model.specs.Image.{module_allowed}
use Rattle.image.proofs.checks.module_allowed.Goals as goal

pub returns : goal.returns
unfolding module_allowed
returns c = simp (c.preset_allowed.ensures, c.number_from-preset.ensures, c.module_config_allowed-config.ensures)
