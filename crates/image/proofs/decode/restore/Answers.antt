use borrow.Author.Rules.{rules}
use Rattle.model.specs.Restored.{restored}
use mir.Syntax.{w32}
use mir.ValLaws.{to_z-of_z}
use lib.Ieee.{of_bits, of_int}
use Rattle.image.proofs.decode.restore.Goals as goal

pub returns : goal.returns
unfolding restored of_bits of_int
returns c =
    let z = c.args.kept.counter in
    rw (
      to_z-of_z w32 z (search rules),
      c.no_windows.ensures,
    )
