use mathlib.Core.Path.{◌∙◌}
use Rattle.buffers.proofs.Laws.Paste.{pasted-start}
use Rattle.reads.proofs.data.put_table.Goals as goal

pub returns : goal.returns
returns c = let s = c.args in c.put_pairs.ensures.0 ∙ pasted-start s.buf.now _
