-- A list of a known length, written out element by element, as code reads it. Assumes nothing.
use mathlib.Core.Path.{◌≡◌, ap, ◌∙◌}
use mathlib.Core.List.{List, [], ◌∷◌}
use Prim.Native.Nat.{ℕ, zero, suc, ◌+◌, ◌<◌}
use native.Mathlib.Omega.{arith}
use lib.ListN.{length, drop, get_or, drop_of_length-le}
use lib.Seq.{drop-cons}

-- the n elements from place i on
abbrev pub elements : ℕ → ℕ → List ℕ → List ℕ
elements i zero l = []
elements i (suc n) l = get_or l i 0 ∷ elements (suc i) n l

rest : (l : List ℕ) (i n : ℕ) → length l ≡ i + n → drop i l ≡ elements i n l
rest l i zero e = drop_of_length-le l {i = i} (omega (arith, e))
rest l i (suc n) e = let h : i < length l = omega (arith, e) in drop-cons l i 0 h ∙ ap (λ (r : List ℕ). get_or l i 0 ∷ r) (rest l (suc i) n (omega (arith, e)))

pub whole : (n : ℕ) (l : List ℕ) → length l ≡ n → l ≡ elements 0 n l
whole n l e = rest l 0 n (omega (arith, e))
