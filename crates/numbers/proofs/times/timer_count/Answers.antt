use mathlib.Core.Path.{◌≡◌, sym, ap, ◌∙◌, subst}
use lib.Dec.{T}
use lib.IntN.{ℤ}
use lib.Ieee.{binary32, fits}
use mir.Syntax.{w32, w64}
use mir.Val.{SFits, to_z, of_z}
use mir.ValLaws.{to_z-of_z}
use Rattle.counts.specs.Counts.{timer}
use Rattle.numbers.specs.Reals.{count_of}
use Rattle.numbers.specs.Written.{timer_allowed}
use Rattle.numbers.proofs.Laws.Range.{timer-under, timer-fits}
use Rattle.numbers.proofs.times.timer_count.Goals as goal

pub count_of-requires : goal.count_of-requires
count_of-requires c = timer-under c.args.x (subst T (sym c.requires) tt)

pub overflow_cast-result : goal.overflow_cast-result
overflow_cast-result c =
    let allowed : T (timer_allowed c.args.x) = subst T (sym c.requires) tt in
    let held : T (fits binary32 c.args.x) = subst T (sym c.well_formed.0.1) tt in
    let count : to_z w64 (of_z w64 c.count_of.result) ≡ count_of 256 c.args.x = to_z-of_z w64 c.count_of.result (record { sfits = c.count_of.type_inv }) ∙ c.count_of.ensures in
    let fitting : SFits w32 (count_of 256 c.args.x) = timer-fits c.args.x held allowed in
    subst (SFits w32) (sym count) fitting

pub returns : goal.returns
returns c =
    let allowed : T (timer_allowed c.args.x) = subst T (sym c.requires) tt in
    let held : T (fits binary32 c.args.x) = subst T (sym c.well_formed.0.1) tt in
    let count : to_z w64 (of_z w64 c.count_of.result) ≡ count_of 256 c.args.x = to_z-of_z w64 c.count_of.result (record { sfits = c.count_of.type_inv }) ∙ c.count_of.ensures in
    let fitting : SFits w32 (count_of 256 c.args.x) = timer-fits c.args.x held allowed in
    ap timer (ap (λ (z : ℤ). to_z w32 (of_z w32 z)) count ∙ to_z-of_z w32 (count_of 256 c.args.x) fitting)
