use Rattle.model.specs.Calls.{cleared}
use Rattle.pd3120.proofs.clear.Goals as goal

pub returns : goal.returns
unfolding cleared
returns c = λ m e. rw e
