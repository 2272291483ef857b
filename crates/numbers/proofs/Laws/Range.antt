-- What the range tests tell of a Real: how large it is in units of 1 / per, and so that its count fits. Assumes nothing.
use mathlib.Core.Path.{◌≡◌, refl, sym, ap, ◌∙◌, subst}
use mathlib.Core.Logic.{inl, inr}
use mathlib.Core.Bool.{Bool, true, false, ◌&&◌, ◌||◌}
use Prim.Native.Nat.{ℕ, zero, suc, ◌+◌, ◌*◌, ◌^◌, ◌≤◌, ◌<◌}
use native.Mathlib.Nat.{le_trans, le_of_eq, le_of_lt, eq-or-lt_of_le, lt_of_lt_of_le, lt_of_le_of_lt, one-mul, mul-one, zero-mul, mul_right_comm, mul-le-mul_right}
use native.Mathlib.Nat.{mul-lt-mul_of_pos_right, mul-pos}
use native.Mathlib.Omega.{arith}
use lib.Dec.{T, ltb, eqb, ltb→lt, lt→ltb, eqb→eq, lit<, lit≤}
use lib.IntN.{ℤ, pos, neg_ℤ}
use lib.Pow.{pow_pos}
use lib.Signed.{mag}
use lib.Ieee.{Float, nan, inf, fin, binary32, up, down, le, lt, fits, of_int}
use lib.Ieee.Bits.{is_true}
use lib.Ieee.Fits.{down_pos, eq→eqb}
use mir.Syntax.{w32}
use mir.Val.{SFits}
use mir.Facts.{yes_and}
use borrow.Author.Tests.{lt-ltb}
use Rattle.numbers.specs.Reals.{whole, units_of, count_of, under}
use Rattle.numbers.specs.Written.{from, below, timer_allowed, preset_allowed, operating_allowed}
use Rattle.numbers.proofs.Laws.Whole.{whole-small, whole-up-to}
use Rattle.numbers.proofs.Laws.Inside.{units-inside}

-- ---- what a test says of a finite Real
both : (a b : Bool) → T (a && b) → T a × T b
both true b t = (tt, t)
both false b t = absurd t

le_test : (a b : ℕ) (c : Bool) → T (ltb b a || (eqb a b && c)) → b ≤ a
le_test a b c t = go (ltb b a) (eqb a b) (ltb→lt b a) (eqb→eq a b) t
  where
    go : (p q : Bool) → (T p → b < a) → (T q → a ≡ b) → T (p || (q && c)) → b ≤ a
    go true q f g t = le_of_lt (f tt)
    go false true f g t = le_of_eq (sym (g tt))
    go false false f g t = absurd t

less : (a b : ℕ) (c : Bool) → a < b → T (ltb a b || c)
less a b c h = subst (λ (t : Bool). T (t || c)) (sym (lt-ltb a b h)) tt

pub le-made : (a b : ℕ) → b ≤ a → T (ltb b a || (eqb a b && true))
le-made a b h = elim (eq-or-lt_of_le h) [
  | inl e ↦ go (ltb b a) (eqb a b) (eq→eqb (sym e))
  | inr l ↦ less b a _ l
]
  where
    go : (p q : Bool) → T q → T (p || (q && true))
    go true q t = tt
    go false true t = tt
    go false false t = absurd t

module _ (k m : ℕ) (e : ℤ) where
  -- m * 2 ^ e < 2 ^ k
  upper : T (lt (fin false m e) (fin false 1 (pos k))) → m * up e < 2 ^ k * down e
  unfolding lt
  upper t = simp (mul-one, one-mul) at (ltb→lt (m * up e * 1) (1 * 2 ^ k * down e) t)

  -- −2 ^ k ≤ −m * 2 ^ e
  lower : T (le (fin true 1 (pos k)) (fin true m e)) → m * up e ≤ 2 ^ k * down e
  unfolding le
  lower t = simp (mul-one, one-mul) at (le_test (1 * 2 ^ k * down e) (m * up e * 1) true t)

-- 0 ≤ −m * 2 ^ e: only −0 passes
pub none : (m : ℕ) (e : ℤ) → T (le (fin false 0 (pos 0)) (fin true m e)) → m * up e ≡ 0
unfolding le
none m e t = sym (simp (mul-one, zero-mul) at (eqb→eq (0 * down e) (m * up e * 1) (both (eqb (0 * down e) (m * up e * 1)) _ t).0))

-- a finite Real of a size below h, or up to h, in units of 1 / per
module _ (per h m : ℕ) (e : ℤ) where
  scaled-below : m * up e < h * down e → 0 < per → m * up e * per < h * per * down e
  scaled-below l P = lt_of_lt_of_le (mul-lt-mul_of_pos_right l P) (le_of_eq (mul_right_comm h (down e) per))

  scaled-up-to : m * up e ≤ h * down e → m * up e * per ≤ h * per * down e
  scaled-up-to l = le_trans (mul-le-mul_right per l) (le_of_eq (mul_right_comm h (down e) per))

-- ---- 0 ≤ x < 2 ^ k, over the unit
module _ (per k : ℕ) (P : 0 < per) where
  natural-under : (x : Float) → T (le (fin false 0 (pos 0)) x) → T (lt x (fin false 1 (pos k))) → T (under per (2 ^ k * per) x)
  unfolding under le lt
  natural-under nan l h = l
  natural-under (inf true) l h = l
  natural-under (inf false) l h = h
  natural-under (fin false m e) l h = lt→ltb (m * up e * per) (2 ^ k * per * down e) (scaled-below per (2 ^ k) m e (upper k m e h) P)
  natural-under (fin true m e) l h =
      lt→ltb (m * up e * per) (2 ^ k * per * down e)
      (lt_of_le_of_lt (le_of_eq (ap (λ (y : ℕ). y * per) (none m e l) ∙ zero-mul per)) (mul-pos (mul-pos (pow_pos k) P) (down_pos e)))

natural-count : (per : ℕ) (x : Float) → T (le (fin false 0 (pos 0)) x) → pos (units_of per x) ≡ count_of per x
unfolding count_of units_of
natural-count per nan l = refl
natural-count per (inf s) l = refl
natural-count per (fin false m e) l = refl
natural-count per (fin true m e) l =
    let z : whole (m * up e * per) (down e) ≡ 0 = ap (λ (y : ℕ). whole (y * per) (down e)) (none m e l) ∙ ap (λ (y : ℕ). whole y (down e)) (zero-mul per)
    ∙ whole-small 0 (down e) (down_pos e) in
    ap pos z ∙ sym (ap (λ (y : ℕ). neg_ℤ (pos y)) z)

-- ---- OutTimer and FBTimer: −8388608 ≤ x < 8388608
wider : (a d : ℕ) → 0 < d → a ≤ 2147483648 * d → a < 4294967296 * d
wider a d D l = omega arith

mag-minus : (n : ℕ) → n ≤ 2147483648 → mag (neg_ℤ (pos n)) < 2147483648
mag-minus zero h = lit< tt
mag-minus (suc n) h = h

pub timer-under : (x : Float) → T (timer_allowed x) → T (under 256 4294967296 x)
unfolding under from below of_int le lt
timer-under nan t = t
timer-under (inf true) t = t
timer-under (inf false) t = (both (from (neg_ℤ (pos 8388608)) (inf false)) (below (pos 8388608) (inf false)) t).1
timer-under (fin false m e) t =
    lt→ltb (m * up e * 256) (4294967296 * down e)
    (wider (m * up e * 256) (down e) (down_pos e) (le_of_lt
    (scaled-below 256 8388608 m e (upper 23 m e (both (from (neg_ℤ (pos 8388608)) (fin false m e)) (below (pos 8388608) (fin false m e)) t).1) (lit< tt))))
timer-under (fin true m e) t =
    lt→ltb (m * up e * 256) (4294967296 * down e)
    (wider (m * up e * 256) (down e) (down_pos e) (scaled-up-to 256 8388608 m e
    (lower 23 m e (both (from (neg_ℤ (pos 8388608)) (fin true m e)) (below (pos 8388608) (fin true m e)) t).0)))

pub timer-fits : (x : Float) → T (fits binary32 x) → T (timer_allowed x) → SFits w32 (count_of 256 x)
unfolding count_of units_of from below of_int le lt under
timer-fits nan F t = absurd t
timer-fits (inf true) F t = absurd t
timer-fits (inf false) F t = absurd (both (from (neg_ℤ (pos 8388608)) (inf false)) (below (pos 8388608) (inf false)) t).1
timer-fits (fin false m e) F t =
    record {
      sfits = units-inside 256 8388608 (fin false m e) (lit≤ tt) F (lt→ltb (m * up e * 1) (8388608 * down e)
          (scaled-below 1 8388608 m e (upper 23 m e (both (from (neg_ℤ (pos 8388608)) (fin false m e)) (below (pos 8388608) (fin false m e)) t).1) (lit< tt)));
    }
timer-fits (fin true m e) F t = record {
  sfits = mag-minus (whole (m * up e * 256) (down e))
      (whole-up-to (m * up e * 256) (down e) 2147483648 (down_pos e) (scaled-up-to 256 8388608 m e
      (lower 23 m e (both (from (neg_ℤ (pos 8388608)) (fin true m e)) (below (pos 8388608) (fin true m e)) t).0)));
}

-- ---- WDTimer and the presets: 0 ≤ x < 8388608
from-lower : (x : Float) → T (from (pos 0) x) → T (from (neg_ℤ (pos 8388608)) x)
unfolding from of_int le lt
from-lower nan l = l
from-lower (inf true) l = l
from-lower (inf false) l = tt
from-lower (fin false m e) l = less 0 (1 * 2 ^ 23 * down e + m * up e * 1) _ (omega (arith, down_pos e))
from-lower (fin true m e) l = less (m * up e * 1) (1 * 2 ^ 23 * down e) _ (omega (arith, none m e l, down_pos e))

module _ (x : Float) (t : T (preset_allowed x)) where
  -- what a preset allows, a timer does
  timer-too : T (timer_allowed x)
  timer-too = let h = both (from (pos 0) x) (below (pos 8388608) x) t in yes_and (from (neg_ℤ (pos 8388608)) x) (below (pos 8388608) x) (from-lower x h.0) h.1

  pub preset-count : count_of 256 x ≡ pos (units_of 256 x)
  unfolding from of_int
  preset-count = sym (natural-count 256 x (both (from (pos 0) x) (below (pos 8388608) x) t).0)

  pub preset-units : T (fits binary32 x) → units_of 256 x < 2147483648
  preset-units F = (subst (SFits w32) preset-count (timer-fits x F timer-too)).sfits

pub preset-timer : (x : Float) → preset_allowed x ≡ true → timer_allowed x ≡ true
preset-timer x e = is_true (timer_allowed x) (timer-too x (subst T (sym e) tt))

-- ---- OperatingTime: 0 ≤ x < 536870912
module _ (x : Float) (t : T (operating_allowed x)) where
  pub operating-under : T (under 8 4294967296 x)
  unfolding from below of_int
  operating-under = natural-under 8 29 (lit< tt) x (both (from (pos 0) x) (below (pos 536870912) x) t).0 (both (from (pos 0) x) (below (pos 536870912) x) t).1

  pub operating-count : count_of 8 x ≡ pos (units_of 8 x)
  unfolding from of_int
  operating-count = sym (natural-count 8 x (both (from (pos 0) x) (below (pos 536870912) x) t).0)

  pub operating-fits : T (fits binary32 x) → units_of 8 x < 4294967296
  unfolding from below of_int
  operating-fits F = units-inside 8 536870912 x (lit≤ tt) F
      (natural-under 1 29 (lit< tt) x (both (from (pos 0) x) (below (pos 536870912) x) t).0 (both (from (pos 0) x) (below (pos 536870912) x) t).1)
