use mathlib.Core.Path.{◌≡◌, sym, ap, ◌∙◌, subst}
use lib.Dec.{T}
use lib.IntN.{ℤ, pos, nat_abs}
use lib.Signed.{non_neg}
use lib.Ieee.{binary32, fits}
use mir.Syntax.{w32, w64}
use mir.Val.{Fits, to_z, of_z}
use mir.ValLaws.{to_z-of_z}
use Rattle.counts.specs.declared.OperatingCount.{OperatingCount}
use Rattle.numbers.specs.Reals.{units_of}
use Rattle.numbers.specs.Written.{operating_allowed}
use Rattle.numbers.proofs.Laws.Range.{operating-under, operating-count, operating-fits}
use Rattle.numbers.proofs.times.operating_count.Goals as goal

made : ℤ → OperatingCount
made z = record { 0 = nat_abs z }

pub count_of-requires : goal.count_of-requires
count_of-requires c = operating-under c.args.x (subst T (sym c.requires) tt)

pub overflow_cast-result : goal.overflow_cast-result
overflow_cast-result c =
    let allowed : T (operating_allowed c.args.x) = subst T (sym c.requires) tt in
    let held : T (fits binary32 c.args.x) = subst T (sym c.well_formed.0.1) tt in
    -- the count is not negative
    let count : to_z w64 (of_z w64 c.count_of.result) ≡ pos (units_of 8 c.args.x) = to_z-of_z w64 c.count_of.result (record { sfits = c.count_of.type_inv }) ∙ c.count_of.ensures ∙ operating-count c.args.x allowed in
    subst (λ (z : ℤ). T (non_neg z) × Fits w32 (nat_abs z)) (sym count)
    (tt, record { fits = operating-fits c.args.x allowed held })

pub returns : goal.returns
unfolding made
returns c =
    let allowed : T (operating_allowed c.args.x) = subst T (sym c.requires) tt in
    let count : to_z w64 (of_z w64 c.count_of.result) ≡ pos (units_of 8 c.args.x) = to_z-of_z w64 c.count_of.result (record { sfits = c.count_of.type_inv }) ∙ c.count_of.ensures ∙ operating-count c.args.x allowed in
    ap made count
