use Rattle.model.specs.Errors.{com_bytes}
use Rattle.errors.proofs.Laws.Bits.{any_word, com-number, low_first}
use Rattle.errors.proofs.com_bytes.Goals as goal

pub returns : goal.returns
unfolding com_bytes
returns c p cs n e =
    rw (c.bytes_of_u32-b.ensures, c.from-any.ensures, c.from.ensures, com-number p cs n, e, ← any_word p cs) (low_first _)
