use mathlib.Core.Path.{sym, ap, ◌∙◌}
use Rattle.model.specs.Questions.{power_up_reply}
use Rattle.model.specs.Calls.{power_up}
use Rattle.std.specs.Prelude.{is_ok}
use Rattle.image.proofs.Laws.Sections.{filled-sized}
use Rattle.image.proofs.Laws.Tests.{done-sized, started-done, started-refused}
use Rattle.image.proofs.power_up_in_place.Goals as goal

pub invariant_of-put_box : goal.invariant_of-put_box
invariant_of-put_box c =
    let done = sym (c.is_ok.ensures.value ∙ ap is_ok c.power_up_reply-reply.ensures) ∙ c.if-is_ok.true in
    record { known = done-sized c.args.img.now done }

pub returns-then-is_ok : goal.returns-then-is_ok
unfolding power_up
returns-then-is_ok c =
    let img = c.args.img.now in
    let reply = c.power_up_reply-reply.ensures in
    let done = sym (c.is_ok.ensures.value ∙ ap is_ok reply) ∙ c.if-is_ok.true in
    record { after = c.put_box.ensures ∙ started-done (power_up_reply img) img done; reply = reply }

pub invariant_of-put_box-2 : goal.invariant_of-put_box-2
invariant_of-put_box-2 c = record { known = filled-sized _ }

pub returns : goal.returns
unfolding power_up
returns c =
    let img = c.args.img.now in
    let reply = c.power_up_reply-reply.ensures in
    let refused = sym (c.is_ok.ensures.value ∙ ap is_ok reply) ∙ c.if-is_ok.false in
    record { after = c.put_box-2.ensures ∙ started-refused (power_up_reply img) img refused; reply = reply }
