use lib.Ieee.{of_int, of_bits}
use borrow.Author.Rules.{rules}
use mir.Facts.{to_z-of_z}
use mir.Syntax.{w32}
use Rattle.model.specs.Restored.{restored}
use Rattle.writes.proofs.reset.reset_channel.Goals as goal

pub returns : goal.returns
unfolding restored of_int of_bits
returns c =
    let ch = c.args.ch in
    simp (
      c.no_windows.ensures,
      to_z-of_z {w = w32} {z = ch.kept.counter} (search rules),
    )
