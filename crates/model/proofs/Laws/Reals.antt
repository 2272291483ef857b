-- The order of finite Reals. A Real is (p − n) / d with p or n 0; so x is below y where px dy + ny dx is below py dx + nx dy. Assumes nothing.
use mathlib.Core.Path.{◌≡◌, refl, sym, ap, ◌∙◌}
use mathlib.Core.Bool.{Bool, true, false, ◌||◌}
use Prim.Native.Nat.{ℕ, ◌+◌, ◌*◌, ◌<◌, ◌≤◌}
use native.Mathlib.Nat.{mul_right_comm, mul-le-mul_right, lt_of_mul-lt-mul_right, add-mul, zero-mul, add-zero, zero-add, add_comm}
use native.Mathlib.Omega.{arith}
use lib.Dec.{T, ltb, eqb}
use lib.Ieee.{Float, nan, inf, fin, up, down, lt, eq, le}
use lib.Ieee.Positive.{den, den_pos}
use lib.Ieee.Scale.{finite}
use Rattle.model.proofs.Laws.Tests.{both}
use borrow.Author.Tests.{ltb-true, lt-ltb, le-ltb, eqb-true}

abbrev plus : Float → ℕ
plus nan = 0
plus (inf s) = 0
plus (fin true m e) = 0
plus (fin false m e) = m * up e

abbrev less : Float → ℕ
less nan = 0
less (inf s) = 0
less (fin true m e) = m * up e
less (fin false m e) = 0

-- the side of x, where x is compared with y
abbrev pub side : Float → Float → ℕ
side x y = plus x * den y + less y * den x

lt-sides : (x y : Float) → T (finite x) → T (finite y) → lt x y ≡ ltb (side x y) (side y x)
unfolding lt
lt-sides nan y f g = absurd f
lt-sides (inf s) y f g = absurd f
lt-sides (fin s m e) nan f g = absurd g
lt-sides (fin s m e) (inf t) f g = absurd g
lt-sides (fin false m e) (fin false n d) f g = simp (zero-mul, add-zero)
lt-sides (fin false m e) (fin true n d) f g = sym (le-ltb (side (fin false m e) (fin true n d)) (side (fin true n d) (fin false m e)) (omega arith))
lt-sides (fin true m e) (fin false n d) f g = ap (ltb 0) (add_comm (m * up e * down d) (n * up d * down e)) ∙ simp (zero-mul, add-zero)
lt-sides (fin true m e) (fin true n d) f g = simp (zero-mul, zero-add)

eq-sides : (x y : Float) → T (finite x) → T (finite y) → eq x y ≡ true → side x y ≡ side y x
unfolding eq
eq-sides nan y f g h = absurd f
eq-sides (inf s) y f g h = absurd f
eq-sides (fin s m e) nan f g h = absurd g
eq-sides (fin s m e) (inf t) f g h = absurd g
eq-sides (fin false m e) (fin false n d) f g h =
    let a = m * up e * down d in
    let b = n * up d * down e in
    let k : a ≡ b = eqb-true a b (both (eqb a b) true h).0 in
    omega (arith, k)
eq-sides (fin false m e) (fin true n d) f g h =
    let a = m * up e * down d in
    let b = n * up d * down e in
    let t = both (eqb a b) (eqb a 0) h in
    let k : a ≡ b = eqb-true a b t.0 in
    let z : a ≡ 0 = eqb-true a 0 t.1 in
    omega (arith, k, z)
eq-sides (fin true m e) (fin false n d) f g h =
    let a = m * up e * down d in
    let b = n * up d * down e in
    let t = both (eqb a b) (eqb a 0) h in
    let k : a ≡ b = eqb-true a b t.0 in
    let z : a ≡ 0 = eqb-true a 0 t.1 in
    omega (arith, k, z)
eq-sides (fin true m e) (fin true n d) f g h =
    let a = m * up e * down d in
    let b = n * up d * down e in
    let k : a ≡ b = eqb-true a b (both (eqb a b) true h).0 in
    omega (arith, k)

-- from x to y by i at least, and from y to z by j
through : (px nx dx py ny dy pz nz dz i j : ℕ) → 0 < i * dz + j * dx → px * dy + ny * dx + i ≤ py * dx + nx * dy → py * dz + nz * dy + j ≤ pz * dy + ny * dz
    → px * dz + nz * dx < pz * dx + nx * dz
through px nx dx py ny dy pz nz dz i j s h k =
    let h₁ = mul-le-mul_right dz h in
    let k₁ = mul-le-mul_right dx k in
    let a : (px * dy + ny * dx + i) * dz ≡ px * dy * dz + ny * dx * dz + i * dz = simp add-mul in
    let b : (py * dx + nx * dy) * dz ≡ py * dx * dz + nx * dy * dz = simp add-mul in
    let c : (py * dz + nz * dy + j) * dx ≡ py * dx * dz + nz * dx * dy + j * dx = simp (add-mul, mul_right_comm py dz dx, mul_right_comm nz dy dx) in
    let d : (pz * dy + ny * dz) * dx ≡ pz * dx * dy + ny * dx * dz = simp (add-mul, mul_right_comm pz dy dx, mul_right_comm ny dz dx) in
    let u : (px * dz + nz * dx) * dy ≡ px * dy * dz + nz * dx * dy = simp (add-mul, mul_right_comm px dz dy) in
    let v : (pz * dx + nx * dz) * dy ≡ pz * dx * dy + nx * dy * dz = simp (add-mul, mul_right_comm nx dz dy) in
    lt_of_mul-lt-mul_right dy (omega (arith, h₁, k₁, a, b, c, d, u, v))

-- what a test says of the sides, and back
below-sides : (x y : Float) → T (finite x) → T (finite y) → lt x y ≡ true → side x y < side y x
below-sides x y f g e = ltb-true (side x y) (side y x) (sym (lt-sides x y f g) ∙ e)

sides-below : (x y : Float) → T (finite x) → T (finite y) → side x y < side y x → lt x y ≡ true
sides-below x y f g h = lt-sides x y f g ∙ lt-ltb (side x y) (side y x) h

sides-not-below : (x y : Float) → T (finite x) → T (finite y) → side y x ≤ side x y → lt x y ≡ false
sides-not-below x y f g h = lt-sides x y f g ∙ le-ltb (side x y) (side y x) h

module _ (x y z : Float) (f : T (finite x)) (g : T (finite y)) (h : T (finite z)) where
  joined : (i j : ℕ) → 0 < i * den z + j * den x → side x y + i ≤ side y x → side y z + j ≤ side z y → lt x z ≡ true
  joined i j s a b = sides-below x z f h (through (plus x) (less x) (den x) (plus y) (less y) (den y) (plus z) (less z) (den z) i j s a b)

  pub below-below : lt x y ≡ true → lt y z ≡ true → lt x z ≡ true
  below-below a b = joined 1 1 (omega (arith, den_pos x, den_pos z)) (omega (arith, below-sides x y f g a)) (omega (arith, below-sides y z g h b))

  pub below_equal : lt x y ≡ true → eq z y ≡ true → lt x z ≡ true
  below_equal a b = joined 1 0 (omega (arith, den_pos x, den_pos z)) (omega (arith, below-sides x y f g a)) (omega (arith, eq-sides z y h g b))

  pub equal-below : eq x y ≡ true → lt y z ≡ true → lt x z ≡ true
  equal-below a b = joined 0 1 (omega (arith, den_pos x, den_pos z)) (omega (arith, eq-sides x y f g a)) (omega (arith, below-sides y z g h b))

module _ (x y : Float) (f : T (finite x)) (g : T (finite y)) where
  pub not-above : lt x y ≡ true → lt y x ≡ false
  not-above a = sides-not-below y x g f (omega (arith, below-sides x y f g a))

  pub equal-not-above : eq x y ≡ true → lt y x ≡ false
  equal-not-above a = sides-not-below y x g f (omega (arith, eq-sides x y f g a))

  not_equal : lt x y ≡ true → eq y x ≡ false
  not_equal a = go (eq y x) refl
    where
      go : (b : Bool) → eq y x ≡ b → b ≡ false
      go true e = absurd (omega (arith, eq-sides y x g f e, below-sides x y f g a))
      go false e = refl

  pub not-at-or-below : lt x y ≡ true → le y x ≡ false
  unfolding le
  not-at-or-below a = rw (not-above a, not_equal a)

pub equal-at-or-below : (x y : Float) → eq x y ≡ true → le x y ≡ true
unfolding le
equal-at-or-below x y e = rw e (go (lt x y))
  where
    go : (b : Bool) → b || true ≡ true
    go true = refl
    go false = refl
