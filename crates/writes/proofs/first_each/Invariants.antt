use Rattle.std.proofs.Common.{◌≡◌, take}
use Rattle.model.proofs.Laws.Filled.{filled, below}
use Rattle.registers.specs.Places.{placed}
use Rattle.writes.specs.Begun.{each_written}
use Rattle.writes.proofs.first_each.Given as goal

abbrev pub invariant-loop-k : goal.invariant-loop-k
invariant-loop-k l =
    let first = take l.count l.fn.channels in
    l.ch-items ≡ filled (below l.k) (each_written (placed l.p) l.word) first first
