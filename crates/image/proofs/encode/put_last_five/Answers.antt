use Rattle.image.specs.Parts.{last_five}
use mathlib.Core.Path.{◌≡◌, ap, ◌∙◌}
use mathlib.Core.List.{◌++◌, append_assoc}
use native.Mathlib.Omega.{arith}
use lib.ListN.{length, length-append}
use Rattle.buffers.proofs.Laws.Paste.{pasted-next, pasted-as}
use Rattle.image.proofs.Laws.Halves.{last-five}
use borrow.Author.Rules.{rules}
use mir.Syntax.{w32}
use mir.ValLaws.{to_z-of_z}
use Rattle.integers.specs.Bytes.{signed_bytes}
use Rattle.model.specs.Image.{entry_of}
use Rattle.image.proofs.encode.put_last_five.Goals as goal

pub returns : goal.returns
returns c =
    let buf = c.args.entry.now in
    let ch = c.args.ch in
    let counter = c.bytes_of_i32-counter in
    let operating = c.bytes_of_u32-counts in
    let bc = ch.maintenance ++ ch.kept.user in
    let de = counter.result ++ operating.result in
    let first = c.put_array.ensures in
    let second = c.put_two.ensures in
    let third = c.put_two-2.ensures in
    let three : length (ch.reals ++ bc) ≡ 16 = length-append ch.reals bc ∙ omega (arith, first.1, second.1) in
    let five : length ((ch.reals ++ bc) ++ de) ≡ 24 = length-append (ch.reals ++ bc) de ∙ omega (arith, three, third.1) in
    let two = pasted-next buf 20 ch.reals 28 bc first.0 second.0 (omega (arith, first.1)) (omega (arith, second.1)) in
    let all = pasted-next buf 20 (ch.reals ++ bc) 36 de two third.0 (omega (arith, three)) (omega (arith, third.1)) in
    let signed : counter.result ≡ signed_bytes 4 ch.kept.counter =
    counter.ensures ∙ ap (signed_bytes 4) (to_z-of_z w32 ch.kept.counter (search rules)) in
    let whole : (ch.reals ++ bc) ++ de ≡ last_five (entry_of ch) = rw (← last-five (entry_of ch), signed, operating.ensures) (simp append_assoc) in
    pasted-as buf 20 whole (all, five)
