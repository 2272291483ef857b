use Rattle.pd3120_c.proofs.Laws.Lengths.{power-up-length}
use Rattle.pd3120_c.proofs.pd3120_power_up.Goals as goal

pub pack-requires : goal.pack-requires
pack-requires c = power-up-length c.args.image.now c.power_up_in_place.result c.power_up_in_place.ensures.answer_is
