use Rattle.questions.proofs.opening.in_week.Goals as goal

pub returns : goal.returns
returns c = simp (c.is_minute-2.ensures, c.is_minute.ensures, c.window_of-w.ensures)
