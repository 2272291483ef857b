use Rattle.model.specs.Reads.{flag_reg}
use Rattle.reads.proofs.flag_reg.Goals as goal

pub returns : goal.returns
unfolding flag_reg
returns c = simp (
  c.byte_of.ensures,
  c.any_bit-act.ensures,
  c.in_b-b.ensures,
  c.in_a-a.ensures,
)
