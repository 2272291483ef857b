use Rattle.questions.proofs.exact.Goals as goal

pub returns : goal.returns
returns c = simp c.size.ensures
