use Rattle.std.proofs.Common.{◌∙◌, refl, arith, length}
use Rattle.std.proofs.lemmas.List.Edits.{paste_all}
use Rattle.std.proofs.lemmas.Slice.{put_mid-paste}
use Rattle.buffers.specs.Pasted.{pasted}
use Rattle.buffers.proofs.put.Goals as goal

pub returns : goal.returns
unfolding pasted
returns c =
    let a = c.args in
    let src = a.src.now in
    put_mid-paste a.at _ a.buf.now c.copy_from_slice.new.self src (length src) c.copy_from_slice.ensures.after (omega arith) refl
    ∙ paste_all a.buf.now a.at src (length src) refl
