use Rattle.std.proofs.Common.{arith, ◌≡◌, sym, ap, ◌∙◌, List, ◌++◌, ℕ, ◌%◌, length, take, drop}
use lib.Seq.{take_all, length-take-le}
use borrow.Author.Tests.{le-leb, lt-leb}
use Rattle.integers.specs.Bytes.{bytes_of}
use Rattle.integers.proofs.Laws.Bytes.{length-bytes}
use Rattle.model.specs.Image.{setup_of, contents_of, sections, framed, total, summed, encode, sum_place, image_size}
use Rattle.model.specs.Questions.{store_reply}
use Rattle.model.specs.Calls.{stored}
use Rattle.buffers.specs.Pasted.{pasted}
use Rattle.buffers.proofs.Laws.Paste.{pasted_length, pasted-on, pasted-front}
use Rattle.image.proofs.store.Goals as goal

pub returns-in_default : goal.returns-in_default
unfolding store_reply stored
returns-in_default c =
    let e = lt-leb image_size (length c.args.buf.now) c.in_default.ensures.cases in
    record { reply = rw e; buffer = rw e }

pub returns : goal.returns
unfolding store_reply stored encode summed
returns c =
    let buf = c.args.buf.now in
    let image = c.in-Some.image.now in
    let room = c.in-Some.ensures.cases in
    let at = sum_place sections in
    let all = framed sections (contents_of (setup_of c.args.m)) in
    let sum = bytes_of 2 (total all % 65536) in
    let e = le-leb image_size (length buf) room.enough in
    let long : length image ≡ image_size = ap length room.same ∙ length-take-le image_size buf room.enough in
    let put = c.put_body in
    let after = put.new.image in
    let same : bytes_of 2 (total (take at after) % 65536) ≡ sum =
    ap (λ (l : List ℕ). bytes_of 2 (total (take at l) % 65536)) put.ensures.0
    ∙ ap (λ (l : List ℕ). bytes_of 2 (total l % 65536)) (pasted-front image all at put.ensures.1) in
    let told = c.put_sum.ensures ∙ ap (pasted after at) same in
    let written = pasted-on image 0 all sum put.ensures (told, length-bytes 2 (total all % 65536)) (omega (arith, long)) in
    let done = c.put_sum.new.image in
    let kept : length done ≡ image_size =
    ap length written.0 ∙ pasted_length image 0 (all ++ sum) (omega (arith, written.1, long)) ∙ long in
    let whole : done ≡ all ++ sum =
    sym (take_all image_size done (omega (arith, kept))) ∙ ap (take image_size) written.0 ∙ pasted-front image (all ++ sum) image_size written.1 in
    let rest = ap (λ (n : ℕ). (all ++ sum) ++ drop n buf) (sym written.1) in
    record { reply = rw e; buffer = rw e (ap (λ (l : List ℕ). l ++ drop image_size buf) whole ∙ rest) }
