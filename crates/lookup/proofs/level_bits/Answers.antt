use Rattle.model.specs.Lookup.{level_bits}
use Rattle.lookup.proofs.level_bits.Goals as goal

pub returns : goal.returns
unfolding level_bits
returns c = rw (c.bits_of.ensures, c.looked_up.ensures, c.table_of.ensures)
