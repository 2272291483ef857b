-- A loop that works on the places of a list one by one, in any order: what stands in the list when some of the places are done, what the
-- next turn adds, and that all of them make the whole; and the two orders, from the first place up and from the last down. Assumes nothing.
use mathlib.Core.Path.{◌≡◌, refl, sym, ap, ap₂, subst, ◌∙◌}
use mathlib.Core.Bool.{Bool, true, false, cond, ◌&&◌}
use mathlib.Core.List.{List, [], ◌∷◌, map}
use Prim.Native.Nat.{ℕ, zero, suc, ◌-◌, ◌<◌}
use native.Mathlib.Nat.{le_of_suc-le-suc, not-suc-le-zero, zero-lt-suc}
use native.Mathlib.Omega.{arith}
use lib.Dec.{ltb, leb}
use lib.ListN.{length, get_or, set}
use borrow.Author.Tests.{ltb-true, ltb-false, leb-true, leb-false, lt-ltb, le-ltb, le-leb, lt-leb}

-- ys, with g of the place and of its element of xs where the place is done
unfoldable pub filled : {A B : Type 0} → (ℕ → Bool) → (ℕ → A → B) → List A → List B → List B
filled done g [] ys = ys
filled done g (x ∷ xs) [] = []
filled done g (x ∷ xs) (y ∷ ys) = cond (done 0) (g 0 x) y ∷ filled (λ (j : ℕ). done (suc j)) (λ (j : ℕ). g (suc j)) xs ys

-- it depends on which places are done, and on nothing else
pub alike : {A B : Type 0} (g : ℕ → A → B) (p q : ℕ → Bool) (xs : List A) (ys : List B) → ((j : ℕ) → p j ≡ q j) → filled p g xs ys ≡ filled q g xs ys
unfolding filled
alike g p q [] ys e = refl
alike g p q (x ∷ xs) [] e = refl
alike {B = B} g p q (x ∷ xs) (y ∷ ys) e =
    ap₂ (λ (b : Bool) (r : List B). cond b (g 0 x) y ∷ r) (e 0) (alike (λ (j : ℕ). g (suc j)) (λ (j : ℕ). p (suc j)) (λ (j : ℕ). q (suc j)) xs ys (λ j. e (suc j)))

-- with no place done it is ys
pub none : {A B : Type 0} (g : ℕ → A → B) (p : ℕ → Bool) (xs : List A) (ys : List B) → ((j : ℕ) → j < length ys → p j ≡ false) → filled p g xs ys ≡ ys
unfolding filled
none g p [] ys e = refl
none g p (x ∷ xs) [] e = refl
none {B = B} g p (x ∷ xs) (y ∷ ys) e =
    ap₂ (λ (b : Bool) (r : List B). cond b (g 0 x) y ∷ r) (e 0 (zero-lt-suc _))
    (none (λ (j : ℕ). g (suc j)) (λ (j : ℕ). p (suc j)) xs ys (λ j l. e (suc j) (omega arith)))

-- a turn of a loop: it comes to the place n, where the places of p are done before it and those of q after it
pub record Turn (p q : ℕ → Bool) (n : ℕ) : Type 0 where
  pub not_yet : p n ≡ false
  pub now : q n ≡ true
  pub others : (j : ℕ) → (j ≡ n → ⊥) → p j ≡ q j

-- the same turn, over the list without its first element
past_first : (p q : ℕ → Bool) (n : ℕ) → Turn p q (suc n) → Turn (λ (j : ℕ). p (suc j)) (λ (j : ℕ). q (suc j)) n
past_first p q n t = record { not_yet = t.not_yet; now = t.now; others = λ j f. t.others (suc j) (λ z. f (omega (arith, z))) }

-- it makes one place more done
pub one_more : {A B : Type 0} (g : ℕ → A → B) (p q : ℕ → Bool) (n : ℕ) (xs : List A) (ys : List B) (d : A) → n < length xs → n < length ys
    → Turn p q n → set (filled p g xs ys) n (g n (get_or xs n d)) ≡ filled q g xs ys
unfolding filled
one_more g p q n [] ys d h l t = absurd (not-suc-le-zero h)
one_more g p q n (x ∷ xs) [] d h l t = absurd (not-suc-le-zero l)
one_more {B = B} g p q zero (x ∷ xs) (y ∷ ys) d h l t =
    ap₂ (λ (b : Bool) (r : List B). cond b (g 0 x) y ∷ r) (sym t.now) (alike (λ (j : ℕ). g (suc j)) (λ (j : ℕ). p (suc j)) (λ (j : ℕ). q (suc j)) xs ys
    (λ j. t.others (suc j) (λ z. omega (arith, z))))
one_more {B = B} g p q (suc n) (x ∷ xs) (y ∷ ys) d h l t =
    ap₂ (λ (b : Bool) (r : List B). cond b (g 0 x) y ∷ r) (t.others 0 (λ z. omega (arith, z)))
    (one_more (λ (j : ℕ). g (suc j)) (λ (j : ℕ). p (suc j)) (λ (j : ℕ). q (suc j)) n xs ys d (le_of_suc-le-suc h) (le_of_suc-le-suc l) (past_first p q n t))

-- a place that is not done is as it was
untouched : {A B : Type 0} (g : ℕ → A → B) (p : ℕ → Bool) (n : ℕ) (xs : List A) (ys : List B) (d : B) → p n ≡ false → get_or (filled p g xs ys) n d ≡ get_or ys n d
unfolding filled
untouched g p n [] ys d e = refl
untouched g p n (x ∷ xs) [] d e = refl
untouched g p zero (x ∷ xs) (y ∷ ys) d e = ap (λ (b : Bool). cond b (g 0 x) y) e
untouched g p (suc n) (x ∷ xs) (y ∷ ys) d e = untouched (λ (j : ℕ). g (suc j)) (λ (j : ℕ). p (suc j)) n xs ys d e

-- a turn of a loop that works in place
pub in_place : {A : Type 0} (g : ℕ → A → A) (p q : ℕ → Bool) (n : ℕ) (xs : List A) (d : A) → n < length xs → Turn p q n
    → set (filled p g xs xs) n (g n (get_or (filled p g xs xs) n d)) ≡ filled q g xs xs
in_place {A} g p q n xs d h t =
    ap (λ (y : A). set (filled p g xs xs) n (g n y)) (untouched g p n xs xs d t.not_yet) ∙ one_more g p q n xs xs d h h t

-- with every place done it is f of each
all : {A B : Type 0} (f : A → B) (p : ℕ → Bool) (xs : List A) (ys : List B) → length xs ≡ length ys → ((j : ℕ) → j < length xs → p j ≡ true)
    → filled p (λ (j : ℕ). f) xs ys ≡ map f xs
unfolding filled
all f p [] [] s e = refl
all f p [] (y ∷ ys) s e = absurd (omega (arith, s))
all f p (x ∷ xs) [] s e = absurd (omega (arith, s))
all {B = B} f p (x ∷ xs) (y ∷ ys) s e =
    ap₂ (λ (b : Bool) (r : List B). cond b (f x) y ∷ r) (e 0 (zero-lt-suc _))
    (all f (λ (j : ℕ). p (suc j)) xs ys (omega (arith, s)) (λ j l. e (suc j) (omega arith)))

-- ---- the two orders of a loop over the first n places: from the first up, the places below k are done; from the last down, those from k on, below n
abbrev pub below : ℕ → ℕ → Bool
below k j = ltb j k

abbrev pub from : ℕ → ℕ → ℕ → Bool
from n k j = leb k j && ltb j n

pub up : (k : ℕ) → Turn (below k) (below (suc k)) k
up k = record { not_yet = le-ltb k k (omega arith); now = lt-ltb k (suc k) (omega arith); others = λ j n. go j n (below k j) refl }
  where
    go : (j : ℕ) → (j ≡ k → ⊥) → (b : Bool) → below k j ≡ b → b ≡ below (suc k) j
    go j n true e = let l = ltb-true j k e in sym (lt-ltb j (suc k) (omega arith))
    go j n false e = let l = ltb-false j k e in sym (le-ltb j (suc k) (omega arith))

pub down : (n k : ℕ) → k < n → Turn (from n (suc k)) (from n k) k
down n k h = record {
  not_yet = ap (λ (b : Bool). b && ltb k n) (lt-leb (suc k) k (omega arith));
  now = ap₂ ◌&&◌ (le-leb k k (omega arith)) (lt-ltb k n h);
  others = λ j f. ap (λ (b : Bool). b && ltb j n) (go j f (leb (suc k) j) refl);
}
  where
    go : (j : ℕ) → (j ≡ k → ⊥) → (b : Bool) → leb (suc k) j ≡ b → b ≡ leb k j
    go j f true e = let l = leb-true (suc k) j e in sym (le-leb k j (omega arith))
    go j f false e = let l = leb-false (suc k) j e in sym (lt-leb k j (omega arith))

-- none is done at first, and in the end all
pub below_none : (j : ℕ) → below 0 j ≡ false
below_none j = le-ltb j 0 (omega arith)

pub all-below : {A B : Type 0} (f : A → B) (n : ℕ) (xs : List A) (ys : List B) → length xs ≡ n → length ys ≡ n → filled (below n) (λ (j : ℕ). f) xs ys ≡ map f xs
all-below f n xs ys e h = all f (below n) xs ys (e ∙ sym h) (λ j l. lt-ltb j n (omega (arith, l, e)))

pub from-none : (n j : ℕ) → from n n j ≡ false
from-none n j = go (ltb j n) refl
  where
    go : (b : Bool) → ltb j n ≡ b → from n n j ≡ false
    go true e = let l = ltb-true j n e in ap (λ (b : Bool). b && ltb j n) (lt-leb n j (omega arith))
    go false e = let l = ltb-false j n e in ap₂ ◌&&◌ (le-leb n j (omega arith)) e

pub from_all : (n j : ℕ) → from n 0 j ≡ below n j
from_all n j = ap (λ (b : Bool). b && ltb j n) (le-leb 0 j (omega arith))

-- an order: turn k comes to `place k`, where the places of `done k` are done; in the end those below n are, whatever the order
pub record Order (n : ℕ) : Type 0 where
  pub place : ℕ → ℕ
  pub done : ℕ → ℕ → Bool
  pub within : (k : ℕ) → k < n → place k < n
  pub turn : (k : ℕ) → k < n → Turn (done k) (done (suc k)) (place k)
  pub at_first : (j : ℕ) → done 0 j ≡ false
  pub at_last : (j : ℕ) → done n j ≡ below n j

abbrev pub upward : (n : ℕ) → Order n
upward n = record {
  place = λ k. k;
  done = below;
  within = λ k l. l;
  turn = λ k l. up k;
  at_first = below_none;
  at_last = λ j. refl;
}

abbrev pub downward : (n : ℕ) → Order n
downward n = record {
  place = λ k. n - suc k;
  done = λ k. from n (n - k);
  within = λ k l. omega (arith, l);
  turn = λ k l.
      let e : suc (n - suc k) ≡ n - k = omega (arith, l) in
      subst (λ (m : ℕ). Turn (from n m) (from n (n - suc k)) (n - suc k)) e (down n (n - suc k) (omega (arith, l)));
  at_first = λ j. let e : n - 0 ≡ n = omega arith in ap (λ (m : ℕ). from n m j) e ∙ from-none n j;
  at_last = λ j. let e : n - n ≡ 0 = omega arith in ap (λ (m : ℕ). from n m j) e ∙ from_all n j;
}
