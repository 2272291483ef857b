use Rattle.image.specs.Parts.{first_five}
use mathlib.Core.Path.{◌≡◌, ◌∙◌}
use mathlib.Core.List.{◌++◌}
use native.Mathlib.Omega.{arith}
use Rattle.buffers.proofs.Laws.Paste.{pasted-on, pasted-as}
use Rattle.image.proofs.Laws.Halves.{regrouped, first-five}
use Rattle.model.specs.Image.{entry_of}
use Rattle.image.proofs.encode.put_first_five.Goals as goal

pub returns : goal.returns
returns c =
    let buf = c.args.entry.now in
    let config = c.config_bytes-config in
    let feedback = c.timer_bytes-feedback in
    let out = c.timer_bytes-out in
    let min = c.bytes_of-min in
    let max = c.bytes_of-max in
    let ab = config.result ++ feedback.result in
    let cd = out.result ++ min.result in
    let two = pasted-on buf 0 ab cd c.put_two.ensures c.put_two-2.ensures (omega arith) in
    let all = pasted-on buf 0 (ab ++ cd) max.result two c.put_array.ensures (omega arith) in
    let whole : (ab ++ cd) ++ max.result ≡ first_five (entry_of c.args.ch) =
    regrouped config.result feedback.result out.result min.result max.result
    ∙ rw (config.ensures, feedback.ensures, out.ensures, min.ensures, max.ensures) (first-five (entry_of c.args.ch)) in
    pasted-as buf 0 whole all
