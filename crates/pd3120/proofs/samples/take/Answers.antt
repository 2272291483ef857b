use mathlib.Core.Path.{sym, ap, ◌∙◌}
use Rattle.model.specs.declared.Shared.{Shared}
use Rattle.model.specs.Channel.{take_sample}
use Rattle.model.specs.Questions.{sample_reply}
use Rattle.model.specs.Calls.{step}
use Rattle.pd3120.proofs.Laws.Samples.{is-digital, done, refused}
use Rattle.pd3120.proofs.samples.take.Goals as goal

pub returns-in-Ok : goal.returns-in-Ok
unfolding step
returns-in-Ok c =
    let a = c.args in
    let r = c.sample_reply-reply in
    let k = a.channel in
    λ m e p.
    done r.result (sample_reply k a.amperes) _ k (take_sample m.shared a.level a.amperes) _ _ r.ensures c.in-Ok.is
    (is-digital k a.amperes) (c.take_sample-after.ensures ∙ ap (λ (t : Shared). take_sample t a.level a.amperes a.ch) (sym e)) m p

pub returns-in-Err : goal.returns-in-Err
unfolding step
returns-in-Err c =
    let a = c.args in
    let r = c.sample_reply-reply in
    λ m e p. refused r.result (sample_reply a.channel a.amperes) _ a.channel _ _ r.ensures c.in-Err.is m p
