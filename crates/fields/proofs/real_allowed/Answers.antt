use mathlib.Core.Path.{ap, ◌∙◌}
use lib.Ieee.Scale.{finite}
use Rattle.fields.proofs.real_allowed.Goals as goal

pub returns : goal.returns
returns c = c.is_finite.ensures ∙ ap finite c.real_from.ensures
