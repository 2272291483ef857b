use Rattle.integers.specs.Bytes.{signed_bytes}
use mathlib.Core.Path.{ap, ◌∙◌}
use mir.ValLaws.{to_z-of_z}
use borrow.Author.Rules.{rules}
use mir.Syntax.{w32}
use Rattle.image.proofs.encode.timer_bytes.Goals as goal

pub returns : goal.returns
returns c =
    let z = c.args.t.0 in
    c.bytes_of_i32.ensures ∙ ap (signed_bytes 4) (to_z-of_z w32 z (search rules))
