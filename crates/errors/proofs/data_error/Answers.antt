use Rattle.model.specs.Errors.{has_act}
use Rattle.errors.proofs.data_error.Goals as goal

pub returns : goal.returns
returns c m v e = rw v (c.any_service.ensures has_act m.channels e)
