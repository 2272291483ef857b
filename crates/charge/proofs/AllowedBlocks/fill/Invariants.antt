use Rattle.std.proofs.Common.{length, slice_index_or}
use Rattle.charge.specs.Charge.{filled, priced}
use Rattle.charge.proofs.Laws.Blocks.{Turn}
use Rattle.charge.proofs.AllowedBlocks.fill.Given as goal

abbrev pub invariant-loop-limit : goal.invariant-loop-limit
invariant-loop-limit l =
    let limits = l.self.limits.now in
    let prices = l.self.prices.now in
    let left = l.limit-iterator in
    Turn
    left.a.rest.now
    left.b.rest.now
    (slice_index_or prices (length limits) 0)
    l.litres
    l.left
    l.before
    l.sum
    (priced (filled l.litres 0 limits) prices)
