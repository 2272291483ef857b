use Rattle.std.proofs.Common.{rules, arith, ◌≡◌, length}
use Rattle.std.proofs.Math.Seq.{length-take-le}
use Rattle.reads.specs.Held.{width}
use Rattle.reads.proofs.buffer.copy_out.Goals as goal

pub returns : goal.returns
returns c =
    let b = c.args.b in
    let n : length b.bytes ≡ width = search rules in
    rw (c.copy_from_slice.ensures.after, length-take-le b.len b.bytes (omega arith))
