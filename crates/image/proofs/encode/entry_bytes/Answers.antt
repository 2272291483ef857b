use Rattle.std.proofs.Common.{arith, sym, ap, ◌∙◌, replicate, take, List, ℕ}
use lib.Seq.{take_all}
use Rattle.buffers.proofs.Laws.Paste.{pasted-on, pasted-as, pasted-front}
use Rattle.model.specs.Image.{entry_of, entry_bytes}
use Rattle.image.proofs.Laws.Halves.{halves}
use Rattle.image.specs.Parts.{first_five, last_five}
use Rattle.image.proofs.encode.entry_bytes.Goals as goal

pub returns : goal.returns
returns c =
    let e = entry_of c.args.ch in
    let zeros : List ℕ = replicate 44 0 in
    let last = c.put_last_five in
    let all = pasted-as zeros 0 (halves e) (pasted-on zeros 0 (first_five e) (last_five e) c.put_first_five.ensures last.ensures (omega arith)) in
    sym (take_all 44 last.new.entry (omega arith)) ∙ ap (take 44) all.0 ∙ pasted-front zeros (entry_bytes e) 44 all.1
