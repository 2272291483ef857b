use Rattle.model.specs.Errors.{service_byte}
use Rattle.errors.proofs.Laws.Bits.{any_word}
use Rattle.errors.proofs.service_byte.Goals as goal

pub returns : goal.returns
unfolding service_byte
returns c p cs n e = simp (c.byte_of.ensures, e, any_word p cs)
