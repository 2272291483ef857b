use Rattle.writes.proofs.Laws.Accepted.{done}
use Rattle.writes.proofs.Laws.Begun.{begun-done, begun-refused}
use Rattle.writes.proofs.begin_in_place.Goals as goal

pub invariant_of-write : goal.invariant_of-write
invariant_of-write c = record { accepted = done _ _ _ _ _ _ c.write_reply-reply.ensures c.in-Ok.is }

pub returns-in-Ok : goal.returns-in-Ok
returns-in-Ok c =
    let t = c in
    let w = t.write_reply-reply in
    let p = t.place_of-p in
    let a = t.args in
    begun-done a.s.now a.v.now a.ch.now a.swno a.b.now p.result w.result p.ensures w.ensures _ c.in-Ok.is _ _ _ _ _ _
    c.shared_after.ensures c.service_after.ensures
    c.channel_after.ensures c.count.ensures c.of_data.ensures c.word.ensures

pub returns-in-Err : goal.returns-in-Err
returns-in-Err c =
    let w = c.write_reply-reply in
    let p = c.place_of-p in
    let a = c.args in
    begun-refused a.s.now a.v.now a.ch.now a.swno a.b.now p.result w.result p.ensures w.ensures _ c.in-Err.is
