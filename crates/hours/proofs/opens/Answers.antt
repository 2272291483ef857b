use Rattle.hours.proofs.opens.Goals as goal

pub returns : goal.returns
returns c = simp (c.within.ensures, c.time_of-2.ensures, c.time_of.ensures)
