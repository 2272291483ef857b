use Rattle.integers.specs.Bytes.{bytes_of}
use Rattle.model.specs.Reads.{common_bytes}
use Rattle.errors.proofs.io_ch_error.Goals as goal

pub returns : goal.returns
unfolding common_bytes bytes_of
returns c cs n e = simp (c.bytes_of_u16-act.ensures, c.bytes_of_u16-his.ensures, e)
