-- The times of specs/Worked.antt, by computation. Assumes nothing.
use mathlib.Core.Path.{refl}
use lib.Ieee.{of_bits}
use Rattle.numbers.specs.Reals.{whole, units_of, count_of}
use Rattle.numbers.specs.Worked.{WorkedTimes}

pub worked-times : WorkedTimes
unfolding of_bits whole units_of count_of
worked-times = record {
  typed = (refl, refl);
  typed_operating = (refl, refl);
  ties = (refl, refl);
  ties_operating = (refl, refl);
  last_ties = (refl, refl);
  last_ties_operating = (refl, refl);
  high_timer = refl;
  low_timer = refl;
  high_operating = refl;
}
