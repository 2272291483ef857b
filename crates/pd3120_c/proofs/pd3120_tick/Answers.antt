use mathlib.Core.Path.{◌≡◌}
use mathlib.Core.Bool.{true}
use native.Mathlib.Omega.{arith}
use lib.ListN.{length}
use borrow.Author.Rules.{rules}
use Rattle.model.specs.Tick.{saved}
use Rattle.ticks.specs.Begun.{ticked_by}
use Rattle.pd3120_c.proofs.Laws.Turns.{down_begins, down_goes, down_long, few, tick_left}
use Rattle.pd3120_c.proofs.pd3120_tick.Goals as goal

pub loop-k-init : goal.loop-k-init
loop-k-init c = record { module_is = down_begins (ticked_by c.begin-begun.result) 16 _; sixteen = λ l. absurd (omega arith) }

pub loop-k-preserved : goal.loop-k-preserved
loop-k-preserved c =
    let l : length c.loop-k.m.channels ≡ 16 = search rules in
    record {
      module_is = down_goes (ticked_by c.begin-begun.result) 16 c.loop-k.k _ _ c.loop-k.m _ _ (omega arith) (omega arith) (omega arith)
          c.loop-k.invariant.module_is c.tick_one.ensures;
      sixteen = λ less. down_long (ticked_by c.begin-begun.result) 16 c.loop-k.k 16 _ c.loop-k.m c.loop-k.invariant.module_is l;
    }

pub loop-k-2-init : goal.loop-k-2-init
loop-k-2-init c = record { short = few _ _ c.begin-begun.ensures; module_is = down_begins (saved true) c.begin-begun.result.count c.loop-k.m }

pub loop-k-2-preserved : goal.loop-k-2-preserved
loop-k-2-preserved c =
    let l : length c.loop-k-2.m.channels ≡ 16 = search rules in
    record {
      short = c.loop-k-2.invariant.short;
      module_is = down_goes (saved true) c.begin-begun.result.count c.loop-k-2.k _ _ c.loop-k-2.m _ _ (omega arith) (omega arith) (omega arith)
          c.loop-k-2.invariant.module_is c.keep.ensures;
    }

pub returns : goal.returns
returns c =
    tick_left c.args.m.now c.begin-begun.result c.tick_data-m.result c.loop-k.k c.loop-k-2.k c.loop-k.m c.loop-k-2.m (c.loop-k.invariant.sixteen (omega arith))
    c.begin-begun.ensures c.tick_data-m.ensures (omega arith) c.loop-k.invariant.module_is (omega arith) c.loop-k-2.invariant.module_is
