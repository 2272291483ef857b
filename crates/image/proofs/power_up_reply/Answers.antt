use mathlib.Core.Path.{sym, ◌∙◌}
use Rattle.image.proofs.Laws.Sections.{sized}
use Rattle.image.proofs.power_up_reply.Goals as goal

pub invariant_of-image : goal.invariant_of-image
invariant_of-image c = record { known = sized c.args.img.now (sym c.size_right.ensures ∙ c.in_ok-ask.ensures.yes) }
