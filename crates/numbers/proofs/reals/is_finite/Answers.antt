use Rattle.std.proofs.Common.{◌∙◌}
use Rattle.numbers.proofs.Laws.Floats.{finite-is}
use Rattle.numbers.proofs.reals.is_finite.Goals as goal

pub returns : goal.returns
returns c = c.is_finite.ensures.value ∙ finite-is c.args.x
