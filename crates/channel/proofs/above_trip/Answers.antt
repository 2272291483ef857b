use mathlib.Core.Path.{refl}
use lib.Ieee.{of_int, of_bits}
use Rattle.channel.proofs.above_trip.Goals as goal

pub returns : goal.returns
unfolding of_int of_bits
returns c = refl
