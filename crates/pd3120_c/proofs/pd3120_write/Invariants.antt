use mathlib.Core.Path.{◌≡◌}
use Rattle.model.proofs.Laws.Filled.{filled, below}
use Rattle.registers.specs.Places.{placed}
use Rattle.writes.specs.Begun.{each_written}
use Rattle.pd3120_c.proofs.pd3120_write.Given as goal

abbrev pub invariant-loop-k : goal.invariant-loop-k
invariant-loop-k l = l.ch-items ≡ filled (below l.k) (each_written (placed l.rest.place) l.rest.word) l.initial.ch-items l.initial.ch-items
