use Rattle.buffers.proofs.Laws.Paste.{pasted-on}
use Rattle.buffers.proofs.put_two.Goals as goal

pub returns : goal.returns
returns c =
    let s = c in
    let a = s.args in
    let first = c.put_array in
    pasted-on a.buf.now a.at a.a a.b first.ensures c.put_array-2.ensures s.requires
