use mathlib.Core.Path.{sym, ap, ◌∙◌}
use mathlib.Core.Bool.{Bool, cond}
use lib.Ieee.{of_bits, of_int}
use Rattle.model.specs.Lookup.{zero}
use Rattle.lookup.proofs.acting.Goals as goal

pub returns-else-is_finite : goal.returns-else-is_finite
unfolding of_bits of_int
returns-else-is_finite c = ap (λ (b : Bool). cond b c.args.x zero) (sym c.if-is_finite.false ∙ c.is_finite.ensures)
