use mathlib.Core.Path.{refl}
use Rattle.model.specs.Errors.{any_bit}
use Rattle.errors.proofs.any_bit.Goals as goal

pub returns : goal.returns
unfolding any_bit
returns c = refl
