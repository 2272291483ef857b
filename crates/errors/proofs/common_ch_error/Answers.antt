use Rattle.model.specs.Errors.{has_his, has_act}
use Rattle.model.specs.Reads.{common_bytes}
use Rattle.errors.proofs.Laws.Bits.{any_word}
use Rattle.errors.proofs.common_ch_error.Goals as goal

pub returns : goal.returns
unfolding common_bytes
returns c cs n e = simp (c.bit-act.ensures, c.bit-his.ensures, e, any_word has_his cs, any_word has_act cs)
