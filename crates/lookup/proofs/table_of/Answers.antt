use borrow.Author.Tests.{eq-eqb, ne_eqb}
use Rattle.lookup.proofs.table_of.Goals as goal

pub returns-then-k-eq1 : goal.returns-then-k-eq1
returns-then-k-eq1 c = rw (eq-eqb _ 1 c.if-k-eq1.true)

pub returns-else-k-eq1 : goal.returns-else-k-eq1
returns-else-k-eq1 c = rw (ne_eqb _ 1 c.if-k-eq1.false)
