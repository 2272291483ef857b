use mathlib.Core.Path.{sym, ◌∙◌}
use Rattle.ticks.proofs.levels_looked_at.Goals as goal

pub returns-then-look_due : goal.returns-then-look_due
returns-then-look_due c = simp (c.levels.ensures, sym c.look_due.ensures ∙ c.if-look_due.true)

pub returns : goal.returns
returns c = simp (sym c.look_due.ensures ∙ c.if-look_due.false)
