use Rattle.ticks.specs.Begun.{ticked_by}
use Rattle.ticks.proofs.Laws.Unchanged.{put-back-ticked}
use Rattle.ticks.proofs.tick_one.Goals as goal

pub returns : goal.returns
unfolding ticked_by
returns c = simp (c.put_back.ensures, c.tick_channel.ensures, put-back-ticked)
