use lib.Ieee.{of_bits, div}
use Rattle.numbers.proofs.Laws.Floats.{nan_pattern, no-nan-pattern}
use Rattle.numbers.proofs.reals.of_bits.Goals as goal

pub returns-then-bits-gt2139095040 : goal.returns-then-bits-gt2139095040
unfolding of_bits div
returns-then-bits-gt2139095040 c = nan_pattern c.args.bits c.if-bits-gt2139095040.true

pub float_from_bits-result : goal.float_from_bits-result
float_from_bits-result c = no-nan-pattern c.args.bits c.if-bits-gt2139095040.false
