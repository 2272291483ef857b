use Rattle.writes.proofs.reset.reset_shared.Goals as goal

pub returns : goal.returns
returns c = rw c.unset.ensures
