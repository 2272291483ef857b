use mathlib.Core.Path.{ap}
use Rattle.model.specs.Calls.{step}
use Rattle.pd3120.specs.Answers.{tick_of}
use Rattle.pd3120.proofs.tick.Goals as goal

pub returns : goal.returns
unfolding step
returns c = ap tick_of c.tick.ensures
