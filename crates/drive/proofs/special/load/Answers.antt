use Rattle.counts.specs.declared.TimerCount.{TimerCount}
use Rattle.model.specs.State.{set_out_timer}
use Rattle.model.specs.Tick.{rose}
use Rattle.model.proofs.Laws.Tests.{picked}
use Rattle.drive.proofs.special.load.Goals as goal

pub returns : goal.returns
returns c =
    let ch = c.args.ch in
    rw (c.select_unpredictable-next.ensures, c.rose.ensures) (picked (λ (t : TimerCount). set_out_timer t ch) (rose ch) ch.out_preset ch.out_timer)
