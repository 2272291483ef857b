use Rattle.buffers.specs.Pasted.{pasted}
use Rattle.integers.specs.Bytes.{bytes_of}
use mathlib.Core.Path.{ap, ◌∙◌}
use Prim.Native.Nat.{ℕ, ◌%◌}
use native.Mathlib.Omega.{arith}
use lib.Seq.{length-take-le}
use Rattle.model.specs.Image.{sections, sum_place}
use Rattle.image.proofs.encode.put_sum.Goals as goal

pub sum-n-requires : goal.sum-n-requires
sum-n-requires c = omega (arith, length-take-le (sum_place sections) c.args.image.now (omega arith))

pub returns : goal.returns
returns c =
    let buf = c.args.image.now in
    let sum = ap (λ (n : ℕ). bytes_of 2 (n % 65536)) c.sum-n.ensures in
    c.put_array.ensures.0 ∙ ap (pasted buf (sum_place sections)) (c.bytes_of_u16-told.ensures ∙ sum)
