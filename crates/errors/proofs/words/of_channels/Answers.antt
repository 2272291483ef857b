use Rattle.std.proofs.Common.{rules, ◌≡◌, length}
use Rattle.model.specs.State.{out_flag_of, in_flag_of}
use Rattle.model.specs.Errors.{has_his, has_act}
use Rattle.model.proofs.Laws.Words.{flags-room}
use Rattle.errors.proofs.words.of_channels.Goals as goal

pub more-out-requires : goal.more-out-requires
more-out-requires c =
    let l = c.loop-ch.invariant in
    let n : length c.args.channels ≡ 16 = search rules in
    rw l.2 (flags-room out_flag_of _ _ l.0 _ _ c.in-Some.ensures.steps l.1 n)

pub more-input-requires : goal.more-input-requires
more-input-requires c =
    let l = c.loop-ch.invariant in
    let n : length c.args.channels ≡ 16 = search rules in
    rw l.3 (flags-room in_flag_of _ _ l.0 _ _ c.in-Some.ensures.steps l.1 n)

pub more-his-requires : goal.more-his-requires
more-his-requires c =
    let l = c.loop-ch.invariant in
    let n : length c.args.channels ≡ 16 = search rules in
    rw l.4 (flags-room has_his _ _ l.0 _ _ c.in-Some.ensures.steps l.1 n)

pub more-act-requires : goal.more-act-requires
more-act-requires c =
    let l = c.loop-ch.invariant in
    let n : length c.args.channels ≡ 16 = search rules in
    rw l.5 (flags-room has_act _ _ l.0 _ _ c.in-Some.ensures.steps l.1 n)
