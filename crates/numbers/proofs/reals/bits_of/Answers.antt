use Rattle.std.proofs.Common.{sym, ap, ◌∙◌}
use lib.Ieee.{binary32, to_bits}
use Rattle.numbers.proofs.Laws.Floats.{is-nan}
use Rattle.numbers.proofs.reals.bits_of.Goals as goal

pub returns-then-is_nan : goal.returns-then-is_nan
unfolding to_bits
returns-then-is_nan c = sym (ap (to_bits binary32) (is-nan c.args.x (sym c.is_nan.ensures.value ∙ c.if-is_nan.true)))
