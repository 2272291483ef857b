use mathlib.Core.Path.{◌≡◌}
use mathlib.Core.Bool.{true}
use Prim.Native.Nat.{◌<◌, ◌≤◌}
use lib.ListN.{length}
use Rattle.model.specs.State.{with_channels}
use Rattle.model.specs.Tick.{saved}
use Rattle.ticks.specs.Begun.{ticked_by}
use Rattle.pd3120_c.proofs.Laws.Turns.{done_down}
use Rattle.pd3120_c.proofs.pd3120_tick.Given as goal

abbrev pub invariant-loop-k : goal.invariant-loop-k
invariant-loop-k l = record {
  module_is : l.m ≡ with_channels (done_down (ticked_by l.begun) 16 l.k l.initial.m.channels) l.initial.m;
  -- the first turn tells it
  sixteen : l.k < 16 → length l.initial.m.channels ≡ 16;
}

abbrev pub invariant-loop-k-2 : goal.invariant-loop-k-2
invariant-loop-k-2 l = record {
  short : l.initial.k ≤ 16;
  module_is : l.m ≡ with_channels (done_down (saved true) l.initial.k l.k l.initial.m.channels) l.initial.m;
}
