use Rattle.std.proofs.Common.{◌≡◌, ℕ}
use Rattle.model.specs.declared.Channel.{Channel}
use Rattle.model.proofs.Laws.Filled.{filled, from}
use Rattle.model.specs.Tick.{saved}
use Rattle.ticks.specs.Begun.{ticked_by}
use Rattle.ticks.proofs.tick_channels.Given as goal

abbrev pub invariant-loop-k : goal.invariant-loop-k
invariant-loop-k l = l.next ≡ filled (from 16 l.k) (λ (j : ℕ) (ch : Channel). saved l.due (ticked_by l.b ch)) l.initial.next l.initial.next
