use mathlib.Core.Path.{ap, ◌∙◌}
use lib.Ieee.{binary32, of_bits}
use Rattle.numbers.specs.Reals.{real_from}
use Rattle.numbers.proofs.reals.of_bytes.Goals as goal

pub returns : goal.returns
unfolding real_from
returns c = c.of_bits.ensures ∙ ap (of_bits binary32) c.u32_of_bytes.ensures
