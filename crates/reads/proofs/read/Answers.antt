use mathlib.Core.Path.{sym, ap, subst, ◌∙◌}
use Prim.Native.Nat.{◌/◌, ◌<◌}
use lib.ListN.{length, get_or}
use Rattle.model.specs.Questions.{Reply}
use Rattle.model.specs.State.{nothing}
use Rattle.model.specs.Registers.{Place}
use Rattle.model.specs.Questions.{read_reply}
use Rattle.model.specs.Calls.{read_leaves, read_fills}
use Rattle.registers.specs.Places.{placed, slot_of, OfChannel}
use Rattle.registers.proofs.Laws.{slot-of, slot-fits}
use Rattle.questions.proofs.Laws.Answers.{roomy}
use Rattle.reads.specs.Left.{channel_left}
use Rattle.reads.specs.Reading.{box_of}
use Rattle.reads.proofs.Laws.Readings.{answered, buffered}
use Rattle.reads.proofs.Back.{service-left, channel-left}
use Rattle.reads.proofs.read.Goals as goal

pub fill-requires : goal.fill-requires
fill-requires c =
    let t = c in
    let s = t.args in
    let p = placed t.place_of-p.result in
    roomy s.swno p s.buf.now _ (sym t.read_reply-reply.ensures ∙ c.in-Ok.is)

pub returns-in-Ok : goal.returns-in-Ok
returns-in-Ok c =
    let t = c in
    let s = t.args in
    let lent = s.buf.now in
    let place_is = t.place_of-p in
    let p = placed place_is.result in
    let e = place_is.ensures in
    let a = t.read_reply-reply in
    let d = c.in-Ok.is in
    let i = slot_of (s.swno / 16) in
    let o = subst (OfChannel i) (sym e) (slot-of s.swno) in
    record {
      answer = λ cs n w own.
          let m = box_of s.s s.v s.d cs in
          let below : i < length cs = rw n (slot-fits (s.swno / 16)) in
          answered m s.swno lent p a.result e a.ensures _ _
          (c.service_left.ensures ∙ service-left p m ∙ ap (λ (r : Reply). (read_leaves r p m).service) (sym d))
          (c.channel_left.ensures ∙ ap (channel_left p) (sym own) ∙ channel-left p i m o below
          ∙ ap (λ (r : Reply). get_or (read_leaves r p m).channels i nothing) (sym d));
      buffer = λ cs n w own.
          let m = box_of s.s s.v s.d cs in
          buffered m s.swno lent p a.result e a.ensures _
          (c.fill.ensures i o cs n w own ∙ ap (λ (r : Reply). read_fills r p m lent) (sym d));
      reply = a.ensures ∙ ap (λ (q : Place). read_reply s.swno q lent) e;
    }

pub returns-in-Err : goal.returns-in-Err
returns-in-Err c =
    let s = c.args in
    let lent = s.buf.now in
    let place_is = c.place_of-p in
    let p = placed place_is.result in
    let e = place_is.ensures in
    let a = c.read_reply-reply in
    let d = c.in-Err.is in
    let i = slot_of (s.swno / 16) in
    record {
      answer = λ cs n w own.
          let m = box_of s.s s.v s.d cs in
          answered m s.swno lent p a.result e a.ensures s.v s.ch
          (ap (λ (r : Reply). (read_leaves r p m).service) (sym d))
          (sym own ∙ ap (λ (r : Reply). get_or (read_leaves r p m).channels i nothing) (sym d));
      buffer = λ cs n w own.
          let m = box_of s.s s.v s.d cs in
          buffered m s.swno lent p a.result e a.ensures lent (ap (λ (r : Reply). read_fills r p m lent) (sym d));
      reply = a.ensures ∙ ap (λ (q : Place). read_reply s.swno q lent) e;
    }
