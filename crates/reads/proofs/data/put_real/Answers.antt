use mathlib.Core.Path.{ap, ◌∙◌}
use mathlib.Core.List.{List}
use Prim.Native.Nat.{ℕ}
use Rattle.model.specs.Calls.{overwritten}
use Rattle.buffers.proofs.Laws.Paste.{pasted-start}
use Rattle.reads.proofs.data.put_real.Goals as goal

pub returns : goal.returns
returns c =
    let s = c.args in
    c.put_array.ensures.0 ∙ pasted-start s.buf.now _
    ∙ ap (λ (b : List ℕ). overwritten b s.buf.now) c.bytes_of.ensures
