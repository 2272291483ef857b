use mathlib.Core.Path.{refl}
use Rattle.model.specs.Lookup.{between}
use Rattle.lookup.proofs.between.Goals as goal

pub returns : goal.returns
unfolding between
returns c = refl
