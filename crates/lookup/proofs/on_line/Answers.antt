use Rattle.model.specs.Lookup.{on_line}
use Rattle.lookup.proofs.on_line.Goals as goal

pub returns-then-x-q : goal.returns-then-x-q
unfolding on_line
returns-then-x-q c = simp c.if-x-q.true

pub returns-else-x-q : goal.returns-else-x-q
unfolding on_line
returns-else-x-q c = simp (c.if-x-q.false, c.between.ensures)
