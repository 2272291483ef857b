use Rattle.model.specs.Errors.{has_his}
use Rattle.errors.proofs.general_error.Goals as goal

pub returns : goal.returns
returns c m v e = rw v (c.any_service.ensures has_his m.channels e)
