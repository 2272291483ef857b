use Rattle.std.proofs.Common.{Bool, ◌&&◌, not}
use Rattle.counts.specs.declared.TimerCount.{TimerCount}
use Rattle.counts.specs.Counts.{is_positive}
use Rattle.model.specs.State.{set_out_timer, set_out_flag}
use Rattle.model.proofs.Laws.Tests.{chosen}
use Rattle.drive.proofs.special.turn_output.Goals as goal

pub returns : goal.returns
returns c =
    let ch = c.args.ch in
    let turns = ch.flags.control && not (is_positive ch.out_timer) in
    rw (c.select_unpredictable-next.ensures, c.select_unpredictable-next-2.ensures, c.positive.ensures)
    (chosen (λ (t : TimerCount) (b : Bool). set_out_timer t (set_out_flag b ch)) turns ch.out_preset ch.out_timer (not ch.flags.out_flag)
    ch.flags.out_flag)
