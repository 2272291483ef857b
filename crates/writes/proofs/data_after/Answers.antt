use mathlib.Core.Path.{sym, ◌∙◌}
use Rattle.writes.proofs.Laws.Accepted.{done}
use Rattle.writes.proofs.Laws.Begun.{data-by}
use Rattle.writes.proofs.data_after.Goals as goal

pub invariant_of-data_after : goal.invariant_of-data_after
invariant_of-data_after c = record { accepted = done _ _ _ _ _ _ c.write_reply-reply.ensures c.in-Ok.is }

pub returns-in-Ok : goal.returns-in-Ok
returns-in-Ok c =
    let t = c in
    let w = t.write_reply-reply in
    let p = t.place_of-p in
    let a = t.args in
    c.data_after.ensures ∙ sym (data-by a.s a.swno a.b.now _ w.result a.d p.ensures w.ensures ∙ rw c.in-Ok.is)

pub returns-in-Err : goal.returns-in-Err
returns-in-Err c =
    let w = c.write_reply-reply in
    let p = c.place_of-p in
    let a = c.args in
    sym (data-by a.s a.swno a.b.now _ w.result a.d p.ensures w.ensures ∙ rw c.in-Err.is)
