use Rattle.std.proofs.Common.{rules, ◌≡◌, ◌<◌, length}
use Rattle.model.specs.State.{in_flag_of}
use Rattle.model.proofs.Laws.Words.{flags-room}
use Rattle.ticks.proofs.levels.Goals as goal

pub overflow_mul-r : goal.overflow_mul-r
overflow_mul-r c =
    let l = c.loop-ch.invariant in
    let n : length c.args.channels ≡ 16 = search rules in
    let h : c.loop-ch.r < 32768 = rw l.2 (flags-room in_flag_of _ _ l.0 _ _ c.in-Some.ensures.steps l.1 n) in
    search rules

pub overflow_add-r : goal.overflow_add-r
overflow_add-r c =
    let l = c.loop-ch.invariant in
    let n : length c.args.channels ≡ 16 = search rules in
    let h : c.loop-ch.r < 32768 = rw l.2 (flags-room in_flag_of _ _ l.0 _ _ c.in-Some.ensures.steps l.1 n) in
    search rules
