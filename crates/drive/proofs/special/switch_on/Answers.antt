use mathlib.Core.Bool.{Bool, true}
use Rattle.model.specs.declared.Channel.{Channel}
use Rattle.model.specs.State.{set_out_flag}
use Rattle.model.specs.Tick.{rose, reload}
use Rattle.model.proofs.Laws.Tests.{chosen}
use Rattle.drive.proofs.special.switch_on.Goals as goal

pub returns : goal.returns
returns c =
    let ch = c.args.ch in
    rw (c.load-next.ensures, c.select_unpredictable-out.ensures, c.rose.ensures)
    (chosen (λ (l : Channel) (b : Bool). set_out_flag b l) (rose ch) (reload ch) ch true ch.flags.out_flag)
