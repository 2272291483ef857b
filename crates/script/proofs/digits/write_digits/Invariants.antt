-- The digits still to write, and then those written, are the digits of n.
use Rattle.std.proofs.Common.{◌≡◌, ◌++◌}
use lib.Seq.{slice}
use Rattle.script.specs.Digits.{last_digits}
use Rattle.script.proofs.digits.write_digits.Given as goal

abbrev pub invariant-loop-i : goal.invariant-loop-i
invariant-loop-i l = last_digits l.i l.rest ++ slice l.i l.k l.out ≡ last_digits l.k l.n
