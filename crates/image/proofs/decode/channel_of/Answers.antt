use Rattle.model.specs.Image.{entry_from}
use Rattle.image.proofs.decode.channel_of.Goals as goal

pub returns : goal.returns
unfolding entry_from
returns c = rw (
  c.restore.ensures,
  c.kept_of-kept.ensures,
  c.presets_of-presets.ensures,
  c.array_from-maintenance.ensures,
  c.array_from-reals.ensures,
  c.real_from-max.ensures,
  c.real_from-min.ensures,
  c.config_from-config.ensures,
)
