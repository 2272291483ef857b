use Rattle.std.proofs.Common.{◌≡◌, take}
use Rattle.model.specs.Errors.{byte_of}
use Rattle.errors.proofs.bits.byte_of.Given as goal

abbrev pub invariant-loop-b : goal.invariant-loop-b
invariant-loop-b l = l.n ≡ byte_of (take l.b-index l.b-items)
