use mir.Syntax.{w32}
use mir.ValLaws.{to_z-of_z}
use Rattle.image.proofs.decode.presets_of.Goals as goal

pub returns : goal.returns
returns c =
    let y = c.signed_from in
    let z = c.signed_from-2 in
    rw (to_z-of_z w32 y.result (record { sfits = y.type_inv }), to_z-of_z w32 z.result (record { sfits = z.type_inv }), y.ensures, z.ensures)
