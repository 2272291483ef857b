use mathlib.Core.Path.{◌≡◌}
use lib.ListN.{length}
use borrow.Author.Rules.{rules}
use Rattle.writes.proofs.Laws.Begun.{ended}
use Rattle.writes.proofs.write.Goals as goal

pub returns : goal.returns
returns c =
    let t = c in
    let at = t.wire_slot-at in
    let s = t in
    let l : length s.args.m.channels ≡ 16 = search rules in
    ended s.args.m s.args.swno s.args.b.now at.result t.begin-begun.result c.first_each.result c.data_after.result
    at.ensures.0 l t.begin-begun.ensures c.first_each.ensures c.data_after.ensures
