use mathlib.Core.Path.{refl}
use Rattle.pd3120_c.proofs.Laws.Lengths.{plain-length}
use Rattle.pd3120_c.proofs.pd3120_set_minute.Goals as goal

pub pack-requires : goal.pack-requires
pack-requires c = plain-length _ _ _ _ (c.set_minute-set.ensures c.args.m.now refl)
