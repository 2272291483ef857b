use Rattle.std.proofs.Common.{rules}
use Rattle.integers.specs.Bytes.{bytes_of}
use Rattle.integers.proofs.bytes.bytes_of_u32.Goals as goal

pub returns : goal.returns
unfolding bytes_of
returns c = search rules
