use mathlib.Core.Path.{◌≡◌, sym, ap, ◌∙◌, subst}
use mathlib.Core.Bool.{Bool, true, false}
use Prim.Native.Nat.{ℕ, ◌^◌, ◌≤◌}
use lib.Ieee.{Float, binary32, lt, of_bits}
use lib.Dec.{T}
use Rattle.numbers.specs.Reals.{signed, units_of, count_of, under}
use Rattle.numbers.proofs.Laws.Count.{sign-test, plus-fits, plus, minus-fits, minus-read}
use Rattle.numbers.proofs.Laws.Inside.{units-up-to}
use Rattle.numbers.proofs.times.count_of.Goals as goal

-- the sign and the magnitude make the count
count : (per n : ℕ) (x : Float) (b : Bool) → n ≡ units_of per x → lt x (of_bits binary32 0) ≡ b → signed b n ≡ count_of per x
count per n x b h e = ap (signed b) h ∙ ap (λ (s : Bool). signed s (units_of per x)) (sym e) ∙ sign-test per x

small : (per n : ℕ) (x : Float) → n ≡ units_of per x → T (under per 4294967296 x) → n ≤ 4294967296
small per n x h u = subst (λ (n : ℕ). n ≤ 4294967296) (sym h) (units-up-to per 4294967296 x u)

pub overflow_cast-n : goal.overflow_cast-n
overflow_cast-n c = plus-fits c.units_of-n.result (small (2 ^ c.args.unit.bits) c.units_of-n.result c.args.x c.units_of-n.ensures c.requires)

pub overflow_sub-result : goal.overflow_sub-result
overflow_sub-result c = minus-fits c.units_of-n.result (small (2 ^ c.args.unit.bits) c.units_of-n.result c.args.x c.units_of-n.ensures c.requires)

pub returns-then-x : goal.returns-then-x
returns-then-x c = minus-read c.units_of-n.result (small (2 ^ c.args.unit.bits) c.units_of-n.result c.args.x c.units_of-n.ensures c.requires) ∙ count (2 ^ c.args.unit.bits) c.units_of-n.result c.args.x true c.units_of-n.ensures c.if-x.true

pub returns : goal.returns
returns c = plus c.units_of-n.result (small (2 ^ c.args.unit.bits) c.units_of-n.result c.args.x c.units_of-n.ensures c.requires) ∙ count (2 ^ c.args.unit.bits) c.units_of-n.result c.args.x false c.units_of-n.ensures c.if-x.false
