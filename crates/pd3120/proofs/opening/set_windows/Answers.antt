use Rattle.model.specs.State.{with_timetable}
use Rattle.model.specs.Hours.{timetable_of}
use Rattle.model.specs.Questions.{windows_reply}
use Rattle.model.specs.Calls.{step}
use Rattle.pd3120.proofs.Laws.Samples.{has-channel, done, refused}
use Rattle.pd3120.proofs.opening.set_windows.Goals as goal

pub returns-in-Ok : goal.returns-in-Ok
unfolding step
returns-in-Ok c =
    let a = c.args in
    let r = c.windows_reply-reply in
    let ws = a.windows.now in
    λ m p.
    done r.result (windows_reply a.channel ws) _ a.channel (with_timetable (timetable_of ws)) _ _ r.ensures c.in-Ok.is
    (has-channel a.channel ws) c.with_windows-after.ensures m p

pub returns-in-Err : goal.returns-in-Err
unfolding step
returns-in-Err c =
    let a = c.args in
    let r = c.windows_reply-reply in
    λ m p. refused r.result (windows_reply a.channel a.windows.now) _ a.channel _ _ r.ensures c.in-Err.is m p
