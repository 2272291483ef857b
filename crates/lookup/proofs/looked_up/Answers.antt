use mathlib.Core.Path.{◌∙◌}
use Rattle.model.specs.Lookup.{acts}
use Rattle.lookup.proofs.Laws.{acted, at_first, above-last, on-the-way}
use Rattle.lookup.proofs.looked_up.Goals as goal

pub returns-then-x-first : goal.returns-then-x-first
returns-then-x-first c =
    let s = c in
    at_first (acts s.args.t) s.args.x c.acting_pair-first.result
    (acted s.args.t.pairs 0 _ c.acting_pair-first.ensures) c.if-x-first.true

pub returns-then-last-x : goal.returns-then-last-x
returns-then-last-x c =
    let e = c in
    let s = e in
    above-last (acts s.args.t) s.args.x e.acting_pair-first.result c.acting_pair-last.result
    (acted s.args.t.pairs 0 _ e.acting_pair-first.ensures) e.if-x-first.false
    (acted s.args.t.pairs 9 _ c.acting_pair-last.ensures) c.if-last-x.true

pub returns : goal.returns
returns c =
    let s = c in
    c.from_first.ensures
    ∙ on-the-way (acts s.args.t) s.args.x c.acting_pair-first.result c.acting_pair-last.result
    (acted s.args.t.pairs 0 _ c.acting_pair-first.ensures) c.if-x-first.false
    (acted s.args.t.pairs 9 _ c.acting_pair-last.ensures) c.if-last-x.false
