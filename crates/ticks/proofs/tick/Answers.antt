use mathlib.Core.Path.{◌≡◌}
use lib.ListN.{length}
use borrow.Author.Rules.{rules}
use Rattle.ticks.proofs.Whole.{whole}
use Rattle.ticks.proofs.tick.Goals as goal

pub returns : goal.returns
returns c =
    let start = c in
    let m = start.args.m in
    let n : length m.channels ≡ 16 = search rules in
    simp (
      c.tick_data.ensures,
      c.tick_channels.ensures,
      c.save_due-due.ensures,
      c.begin-b.ensures,
    )
    (whole m n)
