use Rattle.counts.proofs.Laws.Quarters.{chosen-tick}
use Rattle.counts.proofs.Operating.tick.Goals as goal

pub returns : goal.returns
returns c = simp (c.select_unpredictable-2.ensures, c.select_unpredictable.ensures, c.step.ensures, c.more.ensures) (chosen-tick c.args.on c.args.self)
