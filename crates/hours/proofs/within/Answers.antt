use borrow.Author.Tests.{lt-ltb, le-ltb}
use Rattle.model.specs.Hours.{within}
use Rattle.hours.proofs.within.Goals as goal

pub returns-then-end-start : goal.returns-then-end-start
unfolding within
returns-then-end-start c = simp (lt-ltb _ _ c.if-end-start.true)

pub returns : goal.returns
unfolding within
returns c = simp (le-ltb _ _ c.if-end-start.false)
