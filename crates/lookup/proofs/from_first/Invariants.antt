use Rattle.std.proofs.Common.{◌≡◌, map}
use lib.ListN.{drop}
use Rattle.model.specs.Lookup.{acting_pair, pair_at, from_first}
use Rattle.lookup.proofs.from_first.Given as goal

-- the loop has passed the pairs up to `before`, whose X are all below x
abbrev pub invariant-loop-p : goal.invariant-loop-p
invariant-loop-p l =
    let ps = map acting_pair l.fn.pairs in
    from_first (pair_at ps 1) (drop 1 ps) l.x ≡ from_first l.before (drop l.p-index (map acting_pair l.p-items)) l.x
