-- The elements of a slice of bytes are bytes. Assumes nothing.
use mathlib.Core.Path.{◌≡◌, sym, subst}
use mathlib.Core.Bool.{Bool, true, ◌&&◌}
use mathlib.Core.List.{List, [], ◌∷◌}
use Prim.Native.Nat.{ℕ, suc, ◌<◌}
use lib.Dec.{T, ltb}
use lib.ListN.{get_or}
use lib.Pow.{are_bytes}
use borrow.Author.Tests.{lt-ltb}

both : (a b : Bool) → a ≡ true → T b → T (a && b)
both a b e t = subst (λ (c : Bool). T (c && b)) (sym e) t

pub are-bytes : (l : List ℕ) → ((i : ℕ) → get_or l i 0 < 256) → T (are_bytes l)
are-bytes [] h = tt
are-bytes (d ∷ l) h = both (ltb d 256) (are_bytes l) (lt-ltb d 256 (h 0)) (are-bytes l (λ i. h (suc i)))
