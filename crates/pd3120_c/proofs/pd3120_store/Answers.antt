use Rattle.pd3120_c.proofs.Laws.Lengths.{store_length}
use Rattle.pd3120_c.proofs.pd3120_store.Goals as goal

pub pack-requires : goal.pack-requires
pack-requires c = let s = c.args in store_length s.m.now s.buf.now c.store.result _ c.store.ensures.answer_is
