-- Questions and replies: what a yes to all says of each, and a reply from its number. Assumes nothing.
use Rattle.std.specs.Prelude.{Ok, Err}
use mathlib.Core.Path.{◌≡◌, refl}
use mathlib.Core.Bool.{Bool, true, false, cond}
use mathlib.Core.List.{List, [], ◌∷◌}
use Prim.Native.Nat.{ℕ, ◌≤◌}
use native.Mathlib.Omega.{arith}
use lib.Dec.{T}
use Rattle.model.specs.declared.Refusal.{Refusal}
use Rattle.model.specs.declared.Refusal.TheVariants.{Beyond, Unlisted, NotWritable, WrongLength, BufferTooShort, NotEnabled, NotAllowed}
use Rattle.model.specs.declared.Refusal.TheVariants.{NoChannel, NotFinite, ImageLength, ImageCounts, ImageSum, ImageValues, NoRoom, NoTable, NotMinute}
use Rattle.model.specs.declared.Refusal.TheVariants.{TooManyWindows}
use Rattle.model.specs.Questions.{Reply}
use Rattle.model.specs.Questions.{Question, asked, refusal_number, number_of}

-- every answer is yes
abbrev pub Yes : List Question → Type 0
Yes [] = Unit {0}
Yes (q ∷ qs) = T q.yes × Yes qs

-- what is done passed its first question, and is done after it
passed : (b : Bool) (x : Reply) (r : Refusal) (n : ℕ) → cond b x (Err r) ≡ Ok n → T b × (x ≡ Ok n)
passed true x r n e = (tt, e)
passed false x r n e = let z : ◌≡◌ {A = ℕ} 0 1 = cc in absurd (omega arith)

-- what is done passed all its questions
pub asked-yes : (qs : List Question) (r : Reply) (n : ℕ) → asked qs r ≡ Ok n → Yes qs
asked-yes [] r n e = tt
asked-yes (q ∷ qs) r n e = let h = passed q.yes (asked qs r) q.refusal n e in (h.0, asked-yes qs r n h.1)

-- a test that holds takes the first
taken : (b : Bool) (x y : Reply) → T b → cond b x y ≡ x
taken true x y t = refl
taken false x y t = absurd t

-- and what passes all is done
pub yes-asked : (qs : List Question) (r : Reply) → Yes qs → asked qs r ≡ r
yes-asked [] r h = refl
yes-asked (q ∷ qs) r h = rw (taken q.yes (asked qs r) (Err q.refusal) h.0) (yes-asked qs r h.1)

-- no refusal has the number 0
refusal-number : (r : Refusal) → 1 ≤ refusal_number r
refusal-number Beyond = omega arith
refusal-number Unlisted = omega arith
refusal-number NotWritable = omega arith
refusal-number WrongLength = omega arith
refusal-number BufferTooShort = omega arith
refusal-number NotEnabled = omega arith
refusal-number NotAllowed = omega arith
refusal-number NoChannel = omega arith
refusal-number NotFinite = omega arith
refusal-number ImageLength = omega arith
refusal-number ImageCounts = omega arith
refusal-number ImageSum = omega arith
refusal-number ImageValues = omega arith
refusal-number NoRoom = omega arith
refusal-number NoTable = omega arith
refusal-number NotMinute = omega arith
refusal-number TooManyWindows = omega arith

pub not-zero : {A : Type 0} (r : Refusal) → refusal_number r ≡ 0 → A
not-zero r e = absurd (omega (arith, refusal-number r))

-- so the number 0 is given of what is done
pub asked-done : (qs : List Question) (n : ℕ) → number_of (asked qs (Ok n)) ≡ 0 → asked qs (Ok n) ≡ Ok n
asked-done [] n e = refl
asked-done (q ∷ qs) n e = go q.yes (asked-done qs n) e
  where
    go : (b : Bool) → (number_of (asked qs (Ok n)) ≡ 0 → asked qs (Ok n) ≡ Ok n) →
        number_of (cond b (asked qs (Ok n)) (Err q.refusal)) ≡ 0 → cond b (asked qs (Ok n)) (Err q.refusal) ≡ Ok n
    go true later h = later h
    go false later h = not-zero q.refusal h
