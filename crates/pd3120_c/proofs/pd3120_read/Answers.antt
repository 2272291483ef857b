use Rattle.pd3120_c.proofs.Laws.Lengths.{read_length}
use Rattle.pd3120_c.proofs.pd3120_read.Goals as goal

pub pack-requires : goal.pack-requires
pack-requires c = read_length c.args.swno c.args.buf.now c.read_changes-done.result.reply c.read_changes-done.ensures.reply
