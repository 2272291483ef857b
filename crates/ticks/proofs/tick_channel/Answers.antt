use Rattle.ticks.proofs.tick_channel.Goals as goal

pub returns : goal.returns
returns c = simp (c.review.ensures, c.drive.ensures)
