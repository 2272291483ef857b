-- The charges worked out by hand are what the definitions compute. Assumes nothing.
use mathlib.Core.Path.{refl}
use Rattle.integers.specs.Integers.{modulo}
use Rattle.charge.specs.Charge.{charged}
use Rattle.charge.specs.Worked.{WorkedCharges}

pub worked : WorkedCharges
unfolding charged modulo
worked =
    record {
      in_order = refl;
      its_litres = refl;
      at_the_limit = refl;
      above_the_limit = refl;
      four_blocks = refl;
      a_pulse_more = refl;
      round = refl;
      one_less = refl;
      once = refl;
      half = refl;
      below_half = refl;
      empty_block = refl;
      far_limits = refl;
      largest = refl;
      no_litres = refl;
      too_many_litres = refl;
      litres_first = refl;
      no_blocks = refl;
      five_blocks = refl;
      same_limit = refl;
      lower_limit = refl;
      too_dear = refl;
      past_the_count = refl;
    }
