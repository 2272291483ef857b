use mathlib.Core.Bool.{Bool}
use Rattle.counts.specs.Counts.{is_positive}
use Rattle.model.specs.State.{set_out_flag}
use Rattle.model.proofs.Laws.Tests.{picked}
use Rattle.drive.proofs.special.time_output.Goals as goal

pub returns : goal.returns
returns c =
    let ch = c.args.ch in
    rw (c.select_unpredictable-next.ensures, c.positive-runs.ensures) (picked (λ (b : Bool). set_out_flag b ch) ch.flags.control
    (is_positive ch.out_timer) ch.flags.out_flag)
