use mathlib.Core.Path.{ap, ◌∙◌}
use Rattle.counts.specs.declared.Operating.{Operating}
use Rattle.counts.specs.Counts.{operating_tick}
use Rattle.model.specs.State.{operating_time, with_operating, in_flag_of}
use Rattle.model.specs.Tick.{operated}
use Rattle.model.proofs.Laws.Tests.{picked}
use Rattle.review.proofs.operate.Goals as goal

pub returns : goal.returns
unfolding operated
returns c =
    let ch = c.args.ch in
    ap (λ (t : Operating). with_operating t ch) c.tick-after.ensures
    ∙ picked (λ (t : Operating). with_operating t ch) (in_flag_of ch) (operating_tick (operating_time ch)) (operating_time ch)
