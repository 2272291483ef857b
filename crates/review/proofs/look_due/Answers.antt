use borrow.Author.Rules.{rules}
use mir.Facts.{to_z-of_z}
use mir.Syntax.{w32}
use Rattle.model.specs.Tick.{look_due}
use Rattle.review.proofs.Laws.{remainder}
use Rattle.review.proofs.look_due.Goals as goal

pub returns : goal.returns
unfolding look_due
returns c =
    let s = c.args.s in
    simp (c.bits_of_i32.ensures, to_z-of_z {w = w32} {z = s.free_run_timer.0} (search rules), remainder)
