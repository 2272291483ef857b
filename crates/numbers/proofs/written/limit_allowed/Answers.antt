use Rattle.std.proofs.Common.{refl}
use lib.Ieee.{of_bits, of_int, neg}
use Rattle.numbers.specs.Written.{from, up_to}
use Rattle.numbers.proofs.written.limit_allowed.Goals as goal

pub returns : goal.returns
unfolding from up_to of_bits of_int neg
returns c = refl
