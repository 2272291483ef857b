use Rattle.std.proofs.Common.{rules, ◌≡◌, ap, ◌∙◌, w32, length}
use mir.ValLaws.{to_z-of_z}
use Rattle.integers.specs.Integers.{signed_bits}
use Rattle.integers.specs.Bytes.{signed_number}
use Rattle.integers.proofs.bytes.i32_of_bytes.Goals as goal

pub returns : goal.returns
unfolding signed_number
returns c =
    let e : length c.args.b ≡ 4 = search rules in
    to_z-of_z w32 c.i32_of_bits.result (record { sfits = c.i32_of_bits.type_inv }) ∙ c.i32_of_bits.ensures ∙ ap (signed_bits 32)
    c.u32_of_bytes.ensures ∙ rw e
