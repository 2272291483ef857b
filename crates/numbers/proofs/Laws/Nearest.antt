-- `whole a b` is the nearest whole number to a / b, and where another is as near, it is even; then the same of a Real's count, with its sign. Distances are in
-- parts of 1 / b. Assumes nothing.
use mathlib.Core.Path.{◌≡◌, refl, sym, ap, ◌∙◌, subst}
use mathlib.Core.Logic.{◌⊎◌, inl, inr}
use mathlib.Core.Bool.{Bool, true, false, not, cond}
use Prim.Native.Nat.{ℕ, zero, suc, ◌+◌, ◌-◌, ◌*◌, ◌/◌, ◌%◌, ◌≤◌, ◌<◌, zero-le}
use native.Mathlib.Nat.{le_trans, le_of_eq, le_of_lt, lt_irrefl, lt_of_le_of_lt, eq-or-lt_of_le, le-add_right, mul-le-mul_right, mod-lt, div-add-mod', zero-mul}
use native.Mathlib.Nat.{suc-mul, mul-pos, zero-lt-suc}
use native.Mathlib.Omega.{arith}
use lib.Dec.{T, ltb, ltb→lt, nltb→le}
use lib.IntN.{ℤ, pos, negsuc, neg_ℤ, nat_abs, ◌+ℤ◌, ◌-ℤ◌, ◌*ℤ◌, neg_ℤ-neg_ℤ, neg_ℤ-+ℤ}
use lib.Ieee.{Float, nan, inf, fin, up, down}
use lib.Ieee.Fits.{down_pos}
use Rattle.numbers.specs.Reals.{whole, units_of, count_of}
use Rattle.numbers.specs.Claims.{distance}
use Rattle.numbers.proofs.Laws.Quotient.{decide, closest-down, closest-up, closest-tie}
use Rattle.numbers.proofs.Laws.Whole.{whole-closest}

-- how far c is from a, of numbers without a sign
abbrev apart : ℕ → ℕ → ℕ
apart a c = a - c + (c - a)

-- ---- a = q * b + r against k * b, by the remainder r and by where k is. `at` is q * b or (q + 1) * b, `to` is k * b
module _ (a b r at to : ℕ) where
  less-below : a ≡ at + r → to + b ≤ at → r < b → apart a at < apart a to
  less-below e h R = omega arith

  less-above : a ≡ at + r → at + b ≤ to → r * 2 < b → apart a at < apart a to
  less-above e h R = omega arith

  more-below : a + b ≡ at + r → to + b ≤ at → b < r * 2 → r < b → apart a at < apart a to
  more-below e h R L = omega arith

  more-above : a + b ≡ at + r → at + b ≤ to → r < b → apart a at < apart a to
  more-above e h R = omega arith

  tie-below : a ≡ at + r → to ≤ at → r ≤ apart a to
  tie-below e h = omega arith

  tie-above : a ≡ at + r → at + b ≤ to → r * 2 ≡ b → r ≤ apart a to
  tie-above e h R = omega arith

-- w is k, or nearer than k, or no farther and even
Best : ℕ → ℕ → ℕ → ℕ → Type 0
Best a b k w = (k ≡ w) ⊎ ((apart a (w * b) < apart a (k * b)) ⊎ ((apart a (w * b) ≤ apart a (k * b)) × (w % 2 ≡ 0)))

next : (b k w : ℕ) → k < w → k * b + b ≤ w * b
next b k w h = le_trans (le_of_eq (sym (suc-mul k b))) (mul-le-mul_right b h)

-- at a tie it is the quotient or the next number, whichever is even
one_of_two : (q : ℕ) → (q + q % 2 ≡ q) ⊎ (q + q % 2 ≡ q + 1)
one_of_two q = elim (decide (q % 2) 0) [ inl l ↦ inl (omega arith) | inr g ↦ inr (omega arith) ]

even : (q : ℕ) → (q + q % 2) % 2 ≡ 0
even q = omega arith

one_up : (q b : ℕ) → (q + 1) * b ≡ q * b + b
one_up q b = omega arith

module _ (a b k : ℕ) (B : 0 < b) where
  split : a ≡ a / b * b + a % b
  split = sym (div-add-mod' a b)

  rest : a % b < b
  rest = mod-lt a B

  best-down : a % b * 2 < b → Best a b k (a / b)
  unfolding Best
  best-down h = elim (decide k (a / b)) [
    | inl l ↦ elim (eq-or-lt_of_le l) [
      | inl e ↦ inl e
      | inr s ↦ inr (inl (less-below a b (a % b) (a / b * b) (k * b) split (next b k (a / b) s) rest))
    ]
    | inr g ↦ inr (inl (less-above a b (a % b) (a / b * b) (k * b) split (next b (a / b) k g) h))
  ]

  split-up : a + b ≡ (a / b + 1) * b + a % b
  split-up = omega (arith, split, one_up (a / b) b)

  best-up : b < a % b * 2 → Best a b k (a / b + 1)
  unfolding Best
  best-up h = elim (decide k (a / b + 1)) [
    | inl l ↦ elim (eq-or-lt_of_le l) [
      | inl e ↦ inl e
      | inr s ↦ inr (inl (more-below a b (a % b) ((a / b + 1) * b) (k * b) split-up (next b k (a / b + 1) s) h rest))
    ]
    | inr g ↦ inr (inl (more-above a b (a % b) ((a / b + 1) * b) (k * b) split-up (next b (a / b + 1) k g) rest))
  ]

  -- at a tie both numbers are a half away, and no number is nearer
  least : a % b * 2 ≡ b → a % b ≤ apart a (k * b)
  least h = elim (decide k (a / b)) [
    | inl l ↦ tie-below a b (a % b) (a / b * b) (k * b) split (mul-le-mul_right b l)
    | inr g ↦ tie-above a b (a % b) (a / b * b) (k * b) split (next b (a / b) k g) h
  ]

  half : (w : ℕ) → (w ≡ a / b) ⊎ (w ≡ a / b + 1) → a % b * 2 ≡ b → apart a (w * b) ≤ a % b
  half w (inl e) h = rw e (omega (arith, split))
  half w (inr e) h = rw e (omega (arith, split-up))

  best-tie : a % b * 2 ≡ b → Best a b k (a / b + a / b % 2)
  unfolding Best
  best-tie h = inr (inr (le_trans (half (a / b + a / b % 2) (one_of_two (a / b)) h) (least h), even (a / b)))

  best : Best a b k (whole a b)
  best = elim (decide b (a % b * 2)) [
    | inl l ↦ elim (eq-or-lt_of_le l) [
      | inl e ↦ subst (Best a b k) (closest-tie a b (sym e) ∙ whole-closest a b) (best-tie (sym e))
      | inr g ↦ subst (Best a b k) (closest-up a b g ∙ whole-closest a b) (best-up g)
    ]
    | inr s ↦ subst (Best a b k) (closest-down a b s ∙ whole-closest a b) (best-down s)
  ]

  whole-nearest : apart a (whole a b * b) ≤ apart a (k * b)
  unfolding Best
  whole-nearest = elim best [
    | inl e ↦ le_of_eq (ap (λ (y : ℕ). apart a (y * b)) (sym e))
    | inr o ↦ elim o [ inl l ↦ le_of_lt l | inr t ↦ t.0 ]
  ]

  whole-even : (k ≡ whole a b → ⊥) → apart a (k * b) ≡ apart a (whole a b * b) → whole a b % 2 ≡ 0
  unfolding Best
  whole-even n h = elim best [
    | inl e ↦ absurd (n e)
    | inr o ↦ elim o [ inl l ↦ absurd (lt_irrefl (apart a (k * b)) (lt_of_le_of_lt (le_of_eq h) l)) | inr t ↦ t.1 ]
  ]

-- ---- with signs: z counts from a / b
abbrev gap : ℕ → ℕ → ℤ → ℕ
gap a b z = nat_abs (pos a -ℤ z *ℤ pos b)

gap-sub : (a c : ℕ) → nat_abs (pos a -ℤ pos c) ≡ apart a c
gap-sub a zero = omega arith
gap-sub a (suc c) = go (ltb a (suc c)) (ltb→lt a (suc c)) (nltb→le a (suc c))
  where
    go : (t : Bool) → (T t → a < suc c) → (T (not t) → suc c ≤ a) → nat_abs (cond t (negsuc (suc c - suc a)) (pos (a - suc c))) ≡ apart a (suc c)
    go true f g = omega (arith, f tt)
    go false f g = omega (arith, g tt)

gap-plus : (a b k : ℕ) → gap a b (negsuc k) ≡ a + suc k * b
gap-plus a b k = ap (λ (z : ℤ). nat_abs (pos a +ℤ z)) (neg_ℤ-neg_ℤ (pos (suc k * b)))

gap-zero : (a b : ℕ) → apart a (0 * b) ≡ a
gap-zero a b = ap (apart a) (zero-mul b) ∙ omega arith

module _ (a b : ℕ) (B : 0 < b) where
  near : gap a b (pos (whole a b)) ≤ a
  near = le_trans (le_of_eq (gap-sub a (whole a b * b))) (le_trans (whole-nearest a b 0 B) (le_of_eq (gap-zero a b)))

  pos-nearest : (z : ℤ) → gap a b (pos (whole a b)) ≤ gap a b z
  pos-nearest (pos k) = le_trans (le_of_eq (gap-sub a (whole a b * b))) (le_trans (whole-nearest a b k B) (le_of_eq (sym (gap-sub a (k * b)))))
  pos-nearest (negsuc k) = le_trans near (le_trans (le-add_right a (suc k * b)) (le_of_eq (sym (gap-plus a b k))))

  pos-even : (z : ℤ) → (z ≡ pos (whole a b) → ⊥) → gap a b z ≡ gap a b (pos (whole a b)) → whole a b % 2 ≡ 0
  pos-even (pos k) n h = whole-even a b k B (λ e. n (ap pos e)) (sym (gap-sub a (k * b)) ∙ h ∙ gap-sub a (whole a b * b))
  pos-even (negsuc k) n h = absurd (no (sym (gap-plus a b k) ∙ h) near (mul-pos (zero-lt-suc k) B))
    where
      no : {x : ℕ} → a + suc k * b ≡ x → x ≤ a → 0 < suc k * b → ⊥
      no e l p = omega arith

-- below zero it is as above
pub nat_abs-neg : (z : ℤ) → nat_abs (neg_ℤ z) ≡ nat_abs z
nat_abs-neg (pos zero) = refl
nat_abs-neg (pos (suc n)) = refl
nat_abs-neg (negsuc n) = refl

neg-mul-neg : (b : ℕ) (z : ℤ) → neg_ℤ (neg_ℤ z *ℤ pos b) ≡ z *ℤ pos b
neg-mul-neg b (pos zero) = ap (λ (y : ℕ). neg_ℤ (pos y)) (zero-mul b) ∙ ap pos (sym (zero-mul b))
neg-mul-neg b (pos (suc k)) = neg_ℤ-neg_ℤ (pos (suc k * b))
neg-mul-neg b (negsuc k) = refl

negative-gap : (a b : ℕ) (z : ℤ) → nat_abs (neg_ℤ (pos a) -ℤ z *ℤ pos b) ≡ gap a b (neg_ℤ z)
negative-gap a b z =
    ap nat_abs (sym (neg_ℤ-+ℤ (pos a) (z *ℤ pos b)))
    ∙ nat_abs-neg (pos a +ℤ z *ℤ pos b)
    ∙ ap (λ (y : ℤ). nat_abs (pos a +ℤ y)) (sym (neg-mul-neg b z))

negative-gap-count : (a b n : ℕ) → nat_abs (neg_ℤ (pos a) -ℤ neg_ℤ (pos n) *ℤ pos b) ≡ gap a b (pos n)
negative-gap-count a b n = negative-gap a b (neg_ℤ (pos n)) ∙ ap (gap a b) (neg_ℤ-neg_ℤ (pos n))

pub count-nearest : (per : ℕ) (x : Float) (z : ℤ) → distance per x (count_of per x) ≤ distance per x z
unfolding count_of units_of
count-nearest per nan z = zero-le
count-nearest per (inf s) z = zero-le
count-nearest per (fin false m e) z = pos-nearest (m * up e * per) (down e) (down_pos e) z
count-nearest per (fin true m e) z =
    let a = m * up e * per in
    let b = down e in
    le_trans (le_of_eq (negative-gap-count a b (whole a b))) (le_trans (pos-nearest a b (down_pos e) (neg_ℤ z)) (le_of_eq (sym (negative-gap a b z))))

pub count-even : (per : ℕ) (x : Float) (z : ℤ) → (z ≡ count_of per x → ⊥) → distance per x z ≡ distance per x (count_of per x) → nat_abs (count_of per x) % 2 ≡ 0
unfolding count_of units_of
count-even per nan z n h = refl
count-even per (inf s) z n h = refl
count-even per (fin false m e) z n h = pos-even (m * up e * per) (down e) (down_pos e) z n h
count-even per (fin true m e) z n h =
    let a = m * up e * per in
    let b = down e in
    ap (λ (y : ℕ). y % 2) (nat_abs-neg (pos (whole a b)))
    ∙ pos-even a b (down_pos e) (neg_ℤ z) (λ g. n (sym (neg_ℤ-neg_ℤ z) ∙ ap neg_ℤ g)) (sym (negative-gap a b z) ∙ h ∙ negative-gap-count a b (whole a b))
