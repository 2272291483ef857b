use Rattle.fields.proofs.pair_from.Goals as goal

pub returns : goal.returns
returns c = simp (c.real_from-2.ensures, c.real_from.ensures)
