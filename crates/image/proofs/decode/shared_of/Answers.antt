use mir.Syntax.{w32}
use mir.ValLaws.{to_z-of_z}
use Rattle.image.proofs.decode.shared_of.Goals as goal

pub returns : goal.returns
returns c =
    let z = c.signed_from in
    rw (c.unset.ensures, to_z-of_z w32 z.result (record { sfits = z.type_inv }), z.ensures, c.config_from-config.ensures)
