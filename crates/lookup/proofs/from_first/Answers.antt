use Rattle.std.proofs.Common.{rules, ◌≡◌, ◌<◌, ◌∙◌, sym, ap, List, [], map, length, take}
use lib.ListN.{drop, length-map, drop_of_length-le}
use lib.Ieee.{of_bits, of_int}
use Rattle.model.specs.declared.Pair.{Pair}
use Rattle.model.specs.Lookup.{acting_pair, from_first}
use Rattle.lookup.proofs.Laws.{acted, passed, decided}
use Rattle.lookup.proofs.from_first.Goals as goal

pub returns-else-next-x : goal.returns-else-next-x
returns-else-next-x c =
    let l = c.loop-p in
    let rest = take 9 (drop 1 c.args.pairs) in
    let h : l.p-index < length (map acting_pair rest) = rw (length-map rest acting_pair) (search rules) in
    c.on_line.ensures
    ∙ decided (map acting_pair rest) c.args.x l.before c.acting_pair-next.result l.p-index h
    (acted rest l.p-index _ c.acting_pair-next.ensures) c.if-next-x.false
    ∙ sym l.invariant

pub loop-p-preserved : goal.loop-p-preserved
loop-p-preserved c =
    let l = c.loop-p in
    let rest = take 9 (drop 1 c.args.pairs) in
    let h : l.p-index < length (map acting_pair rest) = rw (length-map rest acting_pair) (search rules) in
    l.invariant
    ∙ passed (map acting_pair rest) c.args.x l.before c.acting_pair-next.result l.p-index h
    (acted rest l.p-index _ c.acting_pair-next.ensures) c.if-next-x.true

pub returns : goal.returns
unfolding from_first of_bits of_int
returns c =
    let l = c.loop-p in
    let rest = take 9 (drop 1 c.args.pairs) in
    let none : drop l.p-index (map acting_pair rest) ≡ [] = drop_of_length-le (map acting_pair rest) {i = l.p-index} (rw (length-map rest acting_pair) (search rules)) in
    sym (l.invariant ∙ ap (λ (ps : List Pair). from_first l.before ps c.args.x) none)
