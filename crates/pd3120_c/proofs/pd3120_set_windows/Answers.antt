use mathlib.Core.Path.{sym, ap}
use Prim.Native.Nat.{ℕ}
use lib.ListN.{get_or}
use Rattle.model.specs.State.{nothing}
use Rattle.pd3120_c.proofs.Laws.Lengths.{plain-length}
use Rattle.pd3120_c.proofs.pd3120_set_windows.Goals as goal

pub pack-requires : goal.pack-requires
pack-requires c =
    let m = c.args.m.now in
    plain-length _ _ _ _ (c.set_windows-taken.ensures m (ap (λ (i : ℕ). get_or m.channels i nothing) (sym c.slot-at.ensures.0)))
