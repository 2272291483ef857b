use mathlib.Core.Path.{ap, ◌∙◌}
use Rattle.integers.specs.Bytes.{bytes_of}
use Rattle.numbers.specs.Reals.{real_bytes}
use Rattle.numbers.proofs.reals.bytes_of.Goals as goal

pub returns : goal.returns
unfolding real_bytes
returns c = c.bytes_of_u32.ensures ∙ ap (bytes_of 4) c.bits_of.ensures
