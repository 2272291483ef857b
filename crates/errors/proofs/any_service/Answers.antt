use Rattle.model.specs.Errors.{any_service}
use Rattle.errors.proofs.any_service.Goals as goal

pub returns : goal.returns
unfolding any_service
returns c p cs e = simp e
