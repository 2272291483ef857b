use Rattle.std.proofs.Common.{rules, ◌≡◌, zero, suc, ◌-◌, ◌&&◌, not, arith, ℤ, pos, negsuc, refl, w32, SFits, of_z, nat_eq}
use lib.Signed.{lt_z}
use borrow.Author.Tests.{ne_eqb, lt-ltb, le-ltb}
use Rattle.counts.specs.Counts.{is_negative, is_positive}
use Rattle.ticks.proofs.is_zero.Goals as goal

-- the bits are 0 where the count is neither below nor above 0
neither : (z : ℤ) → SFits w32 z → nat_eq (of_z w32 z) 0 ≡ not (lt_z z (pos 0)) && not (lt_z (pos 0) z)
neither (pos zero) F = refl
neither (pos (suc n)) F = rw (ne_eqb (suc n) 0 (λ e. omega (arith, e)), le-ltb (suc n) 0 (omega arith), lt-ltb 0 (suc n) (omega arith))
neither (negsuc n) F = let h = F.sfits in rw (ne_eqb (4294967296 - suc n) 0 (λ e. omega (arith, e, h)))

pub returns : goal.returns
unfolding is_negative is_positive
returns c = neither c.args.t.0 (search rules)
