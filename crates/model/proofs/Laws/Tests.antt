-- Tests and choices. Assumes nothing.
use mathlib.Core.Path.{◌≡◌, refl}
use mathlib.Core.Bool.{Bool, true, false, cond, ◌&&◌, ◌||◌, false≢true, true≢false}
use Prim.Native.Nat.{ℕ, ◌≤◌}
use lib.Dec.{T, leb}
use borrow.Author.Tests.{leb-true}
use Rattle.model.specs.Settings.{is_digital}

-- what holds of both holds of the one that is chosen
pub either : {A : Type 0} (P : A → Type 0) (b : Bool) {x y : A} → P x → P y → P (cond b x y)
either P true p q = p
either P false p q = q

-- the same, where each may use what the test says
pub by-test : {A : Type 0} (P : A → Type 0) (b : Bool) {x y : A} → (b ≡ true → P x) → (b ≡ false → P y) → P (cond b x y)
by-test P true p q = p refl
by-test P false p q = q refl

pub both : (a b : Bool) → a && b ≡ true → (a ≡ true) × (b ≡ true)
both true true e = (refl, refl)
both true false e = (refl, e)
both false b e = absurd (false≢true e)

pub neither : (a b : Bool) → a || b ≡ false → (a ≡ false) × (b ≡ false)
neither false b e = (refl, e)
neither true b e = absurd (true≢false e)

pub left : (a b : Bool) → T a → T (a || b)
left true b t = tt
left false b t = absurd t

pub right : (a b : Bool) → T b → T (a || b)
right true b t = tt
right false b t = t

pub range : (k : ℕ) → is_digital k ≡ true → (1 ≤ k) × (k ≤ 16)
range k e = let (p, q) = both (leb 1 k) (leb k 16) e in (leb-true 1 k p, leb-true k 16 q)

-- what is made of a choice is chosen by the same test
pub picked : {A B : Type 0} (f : A → B) (b : Bool) (x y : A) → f (cond b x y) ≡ cond b (f x) (f y)
picked f true x y = refl
picked f false x y = refl

-- what is put together from two choices by one test is chosen by that test
pub chosen : {A B C : Type 0} (f : A → B → C) (b : Bool) (x y : A) (x' y' : B) → f (cond b x y) (cond b x' y') ≡ cond b (f x x') (f y y')
chosen f true x y x' y' = refl
chosen f false x y x' y' = refl
