use Rattle.std.proofs.Common.{rules, sym, w32}
use Rattle.integers.proofs.Laws.Residues.{modulo-bits}
use Rattle.integers.proofs.signed.bits_of_i32.Goals as goal

pub returns : goal.returns
returns c = search (rules, sym (modulo-bits w32 c.args.z c.ranges.z))
