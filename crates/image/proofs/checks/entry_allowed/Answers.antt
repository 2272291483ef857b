use Rattle.model.specs.Image.{entry_allowed}
use Rattle.image.proofs.checks.entry_allowed.Goals as goal

pub returns : goal.returns
unfolding entry_allowed
returns c = simp (
  c.preset_allowed-2.ensures,
  c.preset_allowed.ensures,
  c.limit_allowed-2.ensures,
  c.limit_allowed.ensures,
  c.real_from-max.ensures,
  c.real_from-min.ensures,
  c.number_from-out.ensures,
  c.number_from-feedback.ensures,
  c.config_allowed-config.ensures,
)
