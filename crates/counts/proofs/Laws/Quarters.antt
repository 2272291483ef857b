-- The quarters that act, and a tick by them: the fourth, or one of the first three. Assumes nothing.
use mathlib.Core.Path.{◌≡◌, refl, sym, ap}
use mathlib.Core.Bool.{Bool, true, false, cond, ◌&&◌}
use Prim.Native.Nat.{ℕ, ◌+◌, ◌<◌, ◌≤◌}
use native.Mathlib.Omega.{arith}
use lib.Dec.{eqb, leb, ltb}
use borrow.Author.Tests.{leb-true, eqb-true, eqb-false, ltb-true, ltb-false, le-leb, lt-leb}
use Rattle.counts.specs.declared.OperatingCount.{OperatingCount}
use Rattle.counts.specs.declared.Operating.{Operating}
use Rattle.counts.specs.Counts.{operating_step, operating_of, quarters_of, operating_tick}

abbrev pub with-quarters : OperatingCount → ℕ → Operating
with-quarters n q = record { count = n; quarters = q }

pub in-range : (t : Operating) → t.quarters ≤ 3 → quarters_of t ≡ t.quarters
in-range t h = ap (λ (b : Bool). cond b t.quarters 0) (le-leb t.quarters 3 h)

pub out_of_range : (t : Operating) → 3 < t.quarters → quarters_of t ≡ 0
out_of_range t h = ap (λ (b : Bool). cond b t.quarters 0) (lt-leb t.quarters 3 h)

-- whatever the quarters, those that act are 0 to 3
pub acting : (t : Operating) → quarters_of t ≤ 3
acting t = go (leb t.quarters 3) refl
  where
    go : (b : Bool) → leb t.quarters 3 ≡ b → cond b t.quarters 0 ≤ 3
    go true e = leb-true t.quarters 3 e
    go false e = omega arith

-- what holds of both cases, the fourth quarter and one of the first three, holds of a tick
pub by-quarters : (P : Operating → Type 0) (t : Operating) → (quarters_of t ≡ 3 → P (operating_of (operating_step t.count)))
    → (quarters_of t < 3 → P (with-quarters t.count (quarters_of t + 1))) → P (operating_tick t)
unfolding operating_tick
by-quarters P t p q = go (eqb (quarters_of t) 3) refl
  where
    go : (b : Bool) → eqb (quarters_of t) 3 ≡ b → P (cond b (operating_of (operating_step t.count)) (with-quarters t.count (quarters_of t + 1)))
    go true e = p (eqb-true _ _ e)
    go false e = let l = acting t in let d = eqb-false (quarters_of t) 3 e in q (omega (arith, l, d))

-- ---- by the number itself
abbrev chosen : ℕ → Bool → Bool → ℕ
chosen q fewer three = cond fewer (q + 1) (cond three 0 1)

-- what a tick makes of it where it is three, fewer, or out of range
fourth : (t : Operating) → t.quarters ≡ 3 → operating_tick t ≡ operating_of (operating_step t.count)
fourth t e =
    by-quarters (λ (x : Operating). x ≡ operating_of (operating_step t.count)) t (λ f. refl)
    (λ l. let f = in-range t (omega (arith, e)) in absurd (omega (arith, e, f, l)))

first_three : (t : Operating) (q : ℕ) → quarters_of t ≡ q → q < 3 → operating_tick t ≡ with-quarters t.count (q + 1)
first_three t q e h =
    by-quarters (λ (x : Operating). x ≡ with-quarters t.count (q + 1)) t (λ f. absurd (omega (arith, e, f, h)))
    (λ l. ap (λ (k : ℕ). with-quarters t.count (k + 1)) e)

-- a tick that chooses the count and the quarters, each by itself, where InFlag is on or off
pub chosen-tick : (on : Bool) (t : Operating)
    → with-quarters (cond (on && eqb t.quarters 3) (operating_step t.count) t.count)
    (cond on (chosen t.quarters (ltb t.quarters 3) (eqb t.quarters 3)) t.quarters)
    ≡ cond on (operating_tick t) t
chosen-tick false t = refl
chosen-tick true t = go (ltb q 3) refl (eqb q 3) refl
  where
    q : ℕ
    q = t.quarters

    go : (fewer : Bool) → ltb q 3 ≡ fewer → (three : Bool) → eqb q 3 ≡ three
        → with-quarters (cond three (operating_step t.count) t.count) (chosen q fewer three) ≡ operating_tick t
    go true f true e = let l = ltb-true q 3 f in let d = eqb-true q 3 e in absurd (omega (arith, l, d))
    go true f false e = let l = ltb-true q 3 f in sym (first_three t q (in-range t (omega (arith, l))) l)
    go false f true e = sym (fourth t (eqb-true q 3 e))
    go false f false e =
        let l = ltb-false q 3 f in
        let d = eqb-false q 3 e in
        sym (first_three t 0 (out_of_range t (omega (arith, d, l))) (omega arith))
