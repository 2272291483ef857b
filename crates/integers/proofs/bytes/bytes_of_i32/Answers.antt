use Rattle.std.proofs.Common.{ℤ, ap, ◌∙◌, w32}
use mir.ValLaws.{to_z-of_z}
use Rattle.integers.specs.Integers.{modulo}
use Rattle.integers.specs.Bytes.{bytes_of, signed_bytes}
use Rattle.integers.proofs.bytes.bytes_of_i32.Goals as goal

pub returns : goal.returns
unfolding signed_bytes
returns c =
    let s = c in
    c.bytes_of_u32.ensures
    ∙ ap (bytes_of 4) (c.bits_of_i32.ensures ∙ ap (λ (z : ℤ). modulo z 4294967296) (to_z-of_z w32 s.args.z s.ranges.z))
