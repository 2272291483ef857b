use Rattle.std.proofs.Common.{rules, ◌≡◌, ◌<◌, length, arith}
use native.Mathlib.Numerals.{add-one}
use lib.Seq.{take_all}
use Rattle.model.proofs.Laws.Words.{bit-room}
use Rattle.errors.proofs.Laws.Bits.{byte_step, byte-room}
use Rattle.errors.proofs.bits.byte_of.Goals as goal

pub overflow_mul-n : goal.overflow_mul-n
overflow_mul-n c =
    let l = c.loop-b in
    let r = byte-room l.b-index 7 c.args.bits (omega arith) in
    let h : l.n < 128 = rw l.invariant r in
    search rules

pub overflow_add-n : goal.overflow_add-n
overflow_add-n c =
    let l = c.loop-b in
    let r = byte-room l.b-index 7 c.args.bits (omega arith) in
    let h : l.n < 128 = rw l.invariant r in
    let b = bit-room _ _ c.bit.ensures in
    search rules

pub loop-b-preserved : goal.loop-b-preserved
loop-b-preserved c =
    let l = c.loop-b in
    let bits = c.args.bits in
    let h : l.b-index < length bits = search rules in
    rw (l.invariant, c.bit.ensures, add-one) (byte_step l.b-index bits h)

pub returns : goal.returns
returns c =
    let l = c.loop-b in
    let bits = c.args.bits in
    let n : length bits ≡ 8 = search rules in
    rw (l.invariant, take_all l.b-index bits (omega arith))
