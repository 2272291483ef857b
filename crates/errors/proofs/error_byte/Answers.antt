use mathlib.Core.Path.{refl}
use Rattle.model.specs.Errors.{error_byte}
use Rattle.errors.proofs.error_byte.Goals as goal

pub returns : goal.returns
unfolding error_byte
returns c = refl
