use Rattle.questions.proofs.enabled.Goals as goal

pub returns : goal.returns
returns c = simp (c.is_protected.ensures, c.access.ensures)
