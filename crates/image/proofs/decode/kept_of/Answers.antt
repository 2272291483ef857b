use mir.ValLaws.{to_z-of_z}
use mir.Syntax.{w32}
use Rattle.image.proofs.decode.kept_of.Goals as goal

pub returns : goal.returns
returns c =
    let n = c.signed_from-counter in
    rw (to_z-of_z w32 n.result (record { sfits = n.type_inv }), n.ensures, c.number_from-operating.ensures, c.array_from-user.ensures)
