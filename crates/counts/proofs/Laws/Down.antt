-- A count of 32 bits less 8, brought back to 32 bits as std's `saturating_sub` does it, and the larger of it and a floor. Assumes nothing.
use mathlib.Core.Path.{◌≡◌, refl, sym, ap, ◌∙◌}
use mathlib.Core.Bool.{Bool, true, false, cond, true≢false}
use Prim.Native.Nat.{ℕ, suc, ◌-◌, ◌<◌, min}
use native.Mathlib.Omega.{arith}
use lib.Dec.{ltb}
use lib.IntN.{ℤ, pos, negsuc, ◌-ℤ◌, neg_ℤ}
use lib.Signed.{mag, lt_z}
use mir.Syntax.{w32}
use mir.Val.{SFits}
use borrow.Author.Tests.{ltb-true, ltb-false, lt-ltb, le-ltb}
use Rattle.std.specs.Int.{int_max, saturate_signed}
use Rattle.integers.specs.Integers.{larger}

either : (b : Bool) (x y : ℤ) (h : ℕ) → mag x < h → mag y < h → mag (cond b x y) < h
either true x y h p q = p
either false x y h p q = q

-- not below a floor of 32 bits, it has 32 bits too
minus-fits : (z f : ℤ) → SFits w32 z → SFits w32 f → lt_z (z -ℤ pos 8) f ≡ false → SFits w32 (z -ℤ pos 8)
minus-fits (pos n) f Z F e = let h = Z.sfits in record { sfits = either (ltb n 8) (negsuc (8 - suc n)) (pos (n - 8)) 2147483648 (omega arith) (omega arith) }
minus-fits (negsuc k) (pos m) Z F e = absurd (true≢false e)
minus-fits (negsuc k) (negsuc m) Z F e = let h = F.sfits in let l = ltb-false m _ e in record { sfits = omega arith }

pub larger-fits : (z f : ℤ) → SFits w32 z → SFits w32 f → SFits w32 (larger (z -ℤ pos 8) f)
unfolding larger
larger-fits z f Z F = go (lt_z (z -ℤ pos 8) f) refl
  where
    go : (b : Bool) → lt_z (z -ℤ pos 8) f ≡ b → SFits w32 (cond b f (z -ℤ pos 8))
    go true e = F
    go false e = minus-fits z f Z F e

-- ---- it is not above the highest, so that only the lowest can stop it
not-above : (z : ℤ) → SFits w32 z → lt_z (z -ℤ pos 8) (pos 2147483648) ≡ true
not-above (pos n) F = go (ltb n 8)
  where
    go : (b : Bool) → lt_z (cond b (negsuc (8 - suc n)) (pos (n - 8))) (pos 2147483648) ≡ true
    go true = refl
    go false = let h = F.sfits in lt-ltb (n - 8) 2147483648 (omega arith)
not-above (negsuc k) F = refl

lowest : (d : ℤ) → lt_z d (pos 2147483648) ≡ true → saturate_signed w32 d ≡ larger d (neg_ℤ (pos 2147483648))
unfolding larger
lowest (pos m) h = let l = ltb-true m 2147483648 h in let e : min m 2147483647 ≡ m = omega (arith, l) in ap pos e
lowest (negsuc a) h = go (ltb 2147483647 a) refl
  where
    go : (b : Bool) → ltb 2147483647 a ≡ b → negsuc (min a 2147483647) ≡ cond b (negsuc 2147483647) (negsuc a)
    go true e = let l = ltb-true 2147483647 a e in let m : min a 2147483647 ≡ 2147483647 = omega (arith, l) in ap negsuc m
    go false e = let l = ltb-false 2147483647 a e in let m : min a 2147483647 ≡ a = omega (arith, l) in ap negsuc m

zero : (d : ℤ) → lt_z d (pos 2147483648) ≡ true → int_max (saturate_signed w32 d) (pos 0) ≡ larger d (pos 0)
unfolding larger
zero (pos m) h = go (ltb 0 (min m 2147483647)) refl ∙ sym (ap (λ (b : Bool). cond b (pos 0) (pos m)) (le-ltb m 0 (omega arith)))
  where
    go : (b : Bool) → ltb 0 (min m 2147483647) ≡ b → cond b (pos (min m 2147483647)) (pos 0) ≡ pos m
    go true f = let l = ltb-true m 2147483648 h in let e : min m 2147483647 ≡ m = omega (arith, l) in ap pos e
    go false f = let l = ltb-false 0 _ f in let k = ltb-true m 2147483648 h in let e : 0 ≡ m = omega (arith, l, k) in ap pos e
zero (negsuc a) h = refl

pub to_lowest : (z : ℤ) → SFits w32 z → saturate_signed w32 (z -ℤ pos 8) ≡ larger (z -ℤ pos 8) (neg_ℤ (pos 2147483648))
to_lowest z F = lowest (z -ℤ pos 8) (not-above z F)

pub to_zero : (z : ℤ) → SFits w32 z → int_max (saturate_signed w32 (z -ℤ pos 8)) (pos 0) ≡ larger (z -ℤ pos 8) (pos 0)
to_zero z F = zero (z -ℤ pos 8) (not-above z F)
