use Rattle.numbers.specs.Reals.{real_of}
use Rattle.numbers.proofs.times.operating_real.Goals as goal

pub returns : goal.returns
unfolding real_of
returns c = c.real_of.ensures
