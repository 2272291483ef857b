use Rattle.std.proofs.Common.{refl}
use lib.Ieee.{of_bits, of_int, neg}
use Rattle.numbers.specs.Written.{from, below}
use Rattle.numbers.proofs.written.preset_allowed.Goals as goal

pub returns : goal.returns
unfolding from below of_bits of_int neg
returns c = refl
