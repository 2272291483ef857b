use Rattle.model.specs.Questions.{minute_reply}
use Rattle.model.specs.Calls.{step}
use Rattle.pd3120.proofs.Laws.Minute.{set, not_set}
use Rattle.pd3120.proofs.opening.set_minute.Goals as goal

pub returns-in-Ok : goal.returns-in-Ok
unfolding step
returns-in-Ok c =
    let a = c.args in
    let r = c.minute_reply-reply in
    λ m p. set r.result (minute_reply a.minute) _ a.minute _ _ r.ensures c.in-Ok.is c.with_minute-after.ensures m p

pub returns-in-Err : goal.returns-in-Err
unfolding step
returns-in-Err c =
    let a = c.args in
    let r = c.minute_reply-reply in
    λ m p. not_set r.result (minute_reply a.minute) _ a.minute _ r.ensures c.in-Err.is m p
