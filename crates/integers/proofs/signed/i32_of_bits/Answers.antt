use Rattle.std.proofs.Common.{rules, sym, w32}
use Rattle.integers.proofs.Laws.Residues.{bits-signed}
use Rattle.integers.proofs.signed.i32_of_bits.Goals as goal

pub returns : goal.returns
returns c = search (rules, sym (bits-signed w32 c.args.n c.ranges.n))
