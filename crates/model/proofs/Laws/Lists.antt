-- A rule for every channel of a list, by its place or not: the list is as long, and each channel is the rule's. Assumes nothing.
use mathlib.Core.Path.{◌≡◌, refl, sym, ◌∙◌, ap}
use mathlib.Core.List.{List, [], ◌∷◌, map}
use Prim.Native.Nat.{ℕ, zero, suc, ◌+◌, ◌<◌}
use native.Mathlib.Nat.{le_of_suc-le-suc, not-suc-le-zero, add-zero, suc-add, add-suc, zero-add}
use lib.ListN.{length, get_or, set}
use Rattle.model.specs.declared.Channel.{Channel}
use Rattle.model.specs.State.{nothing}
use Rattle.model.specs.Writes.{each}

pub length-each : (f : ℕ → Channel → Channel) (n : ℕ) (cs : List Channel) → length (each f n cs) ≡ length cs
length-each f n [] = refl
length-each f n (x ∷ xs) = ap suc (length-each f (suc n) xs)

get_or-each : (f : ℕ → Channel → Channel) (n : ℕ) (cs : List Channel) (i : ℕ) → i < length cs → get_or (each f n cs) i nothing ≡ f (n + i) (get_or cs i nothing)
get_or-each f n [] i h = absurd (not-suc-le-zero h)
get_or-each f n (x ∷ xs) zero h = rw add-zero
get_or-each f n (x ∷ xs) (suc i) h = get_or-each f (suc n) xs i (le_of_suc-le-suc h) ∙ ap (λ (k : ℕ). f k (get_or xs i nothing)) (suc-add n i ∙ sym (add-suc n i))

pub at_each : (f : ℕ → Channel → Channel) (cs : List Channel) (i : ℕ) → i < length cs → get_or (each f 0 cs) i nothing ≡ f i (get_or cs i nothing)
at_each f cs i h = get_or-each f 0 cs i h ∙ rw zero-add

pub at_map : {A : Type 0} (f : A → Channel) (d : A) (xs : List A) (i : ℕ) → i < length xs → get_or (map f xs) i nothing ≡ f (get_or xs i d)
at_map f d [] i h = absurd (not-suc-le-zero h)
at_map f d (x ∷ xs) zero h = refl
at_map f d (x ∷ xs) (suc i) h = at_map f d xs i (le_of_suc-le-suc h)

-- two rules that do the same at a place
pub at_same : (f g : Channel → Channel) (cs : List Channel) (i : ℕ) → f (get_or cs i nothing) ≡ g (get_or cs i nothing)
    → get_or (map f cs) i nothing ≡ get_or (map g cs) i nothing
at_same f g [] i e = refl
at_same f g (x ∷ xs) zero e = e
at_same f g (x ∷ xs) (suc i) e = at_same f g xs i e

-- ---- what holds at a place, or of what stands past the end, holds there afterwards
module _ (P : Channel → Type 0) where
  pub at-mapped : (f : Channel → Channel) (cs : List Channel) (i : ℕ) → P nothing → P (f (get_or cs i nothing)) → P (get_or (map f cs) i nothing)
  at-mapped f [] i n h = n
  at-mapped f (x ∷ xs) zero n h = h
  at-mapped f (x ∷ xs) (suc i) n h = at-mapped f xs i n h

  -- under a rule that keeps it
  pub kept_map : (f : Channel → Channel) → ((ch : Channel) → P ch → P (f ch)) → (cs : List Channel) (i : ℕ) → P (get_or cs i nothing) → P (get_or (map f cs) i nothing)
  kept_map f p [] i h = h
  kept_map f p (x ∷ xs) zero h = p x h
  kept_map f p (x ∷ xs) (suc i) h = kept_map f p xs i h

  pub kept-each : (f : ℕ → Channel → Channel) → ((n : ℕ) (ch : Channel) → P ch → P (f n ch)) → (n : ℕ) (cs : List Channel) (i : ℕ) → P (get_or cs i nothing)
      → P (get_or (each f n cs) i nothing)
  kept-each f p n [] i h = h
  kept-each f p n (x ∷ xs) zero h = p n x h
  kept-each f p n (x ∷ xs) (suc i) h = kept-each f p (suc n) xs i h

  pub kept_set : (y : Channel) (cs : List Channel) (j i : ℕ) → (i ≡ j → P y) → P (get_or cs i nothing) → P (get_or (set cs j y) i nothing)
  kept_set y [] j i p h = h
  kept_set y (x ∷ xs) zero zero p h = p refl
  kept_set y (x ∷ xs) zero (suc i) p h = h
  kept_set y (x ∷ xs) (suc j) zero p h = h
  kept_set y (x ∷ xs) (suc j) (suc i) p h = kept_set y xs j i (λ e. p (ap suc e)) h
