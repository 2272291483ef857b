-- Litres that fill blocks in order: the part of each block, and what the parts come to. Assumes nothing.
use mathlib.Core.Path.{◌≡◌, refl, sym, ap, ◌∙◌}
use mathlib.Core.Bool.{Bool, true, ◌&&◌}
use mathlib.Core.List.{List, [], ◌∷◌}
use mathlib.Core.Logic.{◌⊎◌, inl, inr}
use Prim.Native.Nat.{ℕ, suc, ◌+◌, ◌*◌, ◌-◌, ◌<◌, ◌≤◌, min, zero-le}
use native.Mathlib.Nat.{zero-add, sub-zero, mul-le-mul_left}
use native.Mathlib.Omega.{arith}
use lib.Dec.{leb, ltb, leb-zero}
use lib.ListN.{length, get_or}
use borrow.Author.Tests.{leb-true, ltb-true, le-leb}
use Rattle.model.proofs.Laws.Tests.{both}
use Rattle.charge.specs.Charge.{filled, priced, rising_from, rising, prices_allowed}
use Rattle.charge.specs.Claims.{most_litres, most_hundredths}

-- a block's part and what lies above its limit are all that lies above the limit before
pub parts : (n before limit : ℕ) → before ≤ limit → (min n limit - before) + (n - limit) ≡ n - before
parts n before limit h = omega (arith, h)

-- a part of what lies above the limit before
part_of : (n before limit : ℕ) → before ≤ limit → min (n - before) (limit - before) ≡ min n limit - before
part_of n before limit h = omega (arith, h)

-- and what is left of it
left-of : (n before limit : ℕ) → before ≤ limit → (n - before) - min (n - before) (limit - before) ≡ n - limit
left-of n before limit h = omega (arith, h)

-- no limit below the one before, the first from a on
abbrev pub upward : ℕ → List ℕ → Bool
upward a [] = true
upward a (l ∷ ls) = leb a l && upward l ls

upward-from : (l : ℕ) (ls : List ℕ) → rising_from l ls ≡ true → upward l ls ≡ true
upward-from l [] e = refl
upward-from l (m ∷ ms) e =
    let (p, q) = both (ltb l m) (rising_from m ms) e in
    ap (λ (t : Bool). t && upward m ms) (le-leb l m (omega (arith, ltb-true l m p))) ∙ upward-from m ms q

pub upward-rising : (ls : List ℕ) → rising ls ≡ true → upward 0 ls ≡ true
upward-rising [] e = refl
upward-rising (l ∷ ls) e = ap (λ (t : Bool). t && upward l ls) (leb-zero l) ∙ upward-from l ls e

-- the most litres that there can be
pub litres-held : (p k : ℕ) → p < 4294967296 → k ≤ 10000 → p * k ≤ most_litres
litres-held p k h e =
    let a : p * k ≤ p * 10000 = mul-le-mul_left p e in omega (arith, a)

-- litres at prices that are allowed
pub bound : (n before : ℕ) (ls ps : List ℕ) → upward before ls ≡ true → prices_allowed ps ≡ true → priced (filled n before ls) ps ≤ (n - before) * 100000
bound n before [] [] u e = zero-le
bound n before (l ∷ ls) [] u e = zero-le
bound n before [] (p ∷ ps) u e =
    let (a, b) = both (leb p 100000) (prices_allowed ps) e in
    let h : (n - before) * p ≤ (n - before) * 100000 = mul-le-mul_left (n - before) (leb-true p 100000 a) in
    omega (arith, h)
bound n before (l ∷ ls) (p ∷ ps) u e =
    let (a, b) = both (leb p 100000) (prices_allowed ps) e in
    let (c, d) = both (leb before l) (upward l ls) u in
    let part = min n l - before in
    let h : part * p ≤ part * 100000 = mul-le-mul_left part (leb-true p 100000 a) in
    omega (arith, h, bound n l ls ps d b, parts n before l (leb-true before l c))

pub most : (n : ℕ) (ls ps : List ℕ) → n ≤ most_litres → rising ls ≡ true → prices_allowed ps ≡ true → priced (filled n 0 ls) ps ≤ most_hundredths
most n ls ps h r e = omega (arith, h, bound n 0 ls ps (upward-rising ls r) e)

-- ---- a loop over the blocks: where ls and ps are the limits and prices that are left, `left` litres of n lie above `before`, the limit before them, and the blocks
-- so far cost `sum` of `all`. The price p is the last
pub record Turn (ls ps : List ℕ) (p n left before sum all : ℕ) : Type 0 where
  pub above : upward before ls ≡ true
  pub one_more : length ps ≡ suc (length ls)
  pub final : get_or ps (length ls) 0 ≡ p
  pub remaining : left ≡ n - before
  pub rest : sum + priced (filled n before ls) ps ≡ all
  pub bounded : all ≤ most_hundredths

pub first : (ls ps : List ℕ) (n : ℕ) → n ≤ most_litres → rising ls ≡ true → prices_allowed ps ≡ true → length ps ≡ suc (length ls)
    → Turn ls ps (get_or ps (length ls) 0) n n 0 0 (priced (filled n 0 ls) ps)
first ls ps n h r a e =
    record {
      above = upward-rising ls r;
      one_more = e;
      final = refl;
      remaining = sym (sub-zero n);
      rest = zero-add _;
      bounded = most n ls ps h r a;
    }

-- a block with a limit
pub record Next (l : ℕ) (ls : List ℕ) (q : ℕ) (ps : List ℕ) (p n left before sum all : ℕ) : Type 0 where
  pub room : before ≤ l
  pub turn : Turn ls ps p n (left - min left (l - before)) l (sum + min left (l - before) * q) all

pub next : (l : ℕ) (ls : List ℕ) (q : ℕ) (ps : List ℕ) (p n left before sum all : ℕ) → Turn (l ∷ ls) (q ∷ ps) p n left before sum all
    → Next l ls q ps p n left before sum all
next l ls q ps p n left before sum all t =
    let (a, b) = both (leb before l) (upward l ls) t.above in
    let room = leb-true before l a in
    let left_is = t.remaining in
    let part : min left (l - before) ≡ min n l - before = ap (λ (x : ℕ). min x (l - before)) left_is ∙ part_of n before l room in
    record {
      room = room;
      turn = record {
        above = b;
        one_more = omega (arith, t.one_more);
        final = t.final;
        remaining = ap (λ (x : ℕ). x - min x (l - before)) left_is ∙ left-of n before l room;
        rest = rw part (omega (arith, t.rest));
        bounded = t.bounded;
      };
    }

-- the last block: no limit is left, since there is a price more
pub last : {A B : Type 0} (ls ps : List ℕ) (p n left before sum all : ℕ) → (A → length ls ≡ 0) → (B → length ps ≡ 0) → A ⊎ B
    → Turn ls ps p n left before sum all → sum + left * p ≡ all
last [] [] p n left before sum all f g e t = absurd (omega (arith, t.one_more))
last [] (q ∷ ps) p n left before sum all f g e t = rw (t.remaining, sym t.final) (omega (arith, t.rest))
last (l ∷ ls) ps p n left before sum all f g (inl a) t = absurd (omega (arith, f a))
last (l ∷ ls) ps p n left before sum all f g (inr b) t = absurd (omega (arith, g b, t.one_more))
