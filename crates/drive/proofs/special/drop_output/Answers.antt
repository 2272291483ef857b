use mathlib.Core.Bool.{Bool, false}
use Rattle.model.specs.State.{set_out_flag}
use Rattle.model.specs.Tick.{fell}
use Rattle.model.proofs.Laws.Tests.{picked}
use Rattle.drive.proofs.special.drop_output.Goals as goal

pub returns : goal.returns
returns c =
    let ch = c.args.ch in
    rw c.select_unpredictable-next.ensures (picked (λ (b : Bool). set_out_flag b ch) (fell ch) false ch.flags.out_flag)
