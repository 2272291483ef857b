use Rattle.lookup.proofs.acting_pair.Goals as goal

pub returns : goal.returns
returns c = simp (c.acting-2.ensures, c.acting.ensures)
