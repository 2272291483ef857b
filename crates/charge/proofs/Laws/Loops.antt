-- What the library's questions of a whole slice come to, for limits and prices. Assumes nothing.
use Rattle.std.proofs.Common.{◌≡◌, ℕ, zero, suc, ◌<◌, Bool, true, false, ◌&&◌, leb, ltb, List, [], ◌∷◌, length, get_or, refl, sym, ap, ◌∙◌, arith}
use native.Mathlib.Numerals.{add-one}
use Rattle.std.specs.List.{list_all, IsAllAdjacentAnswer}
use Rattle.charge.specs.Charge.{rising_from, rising, prices_allowed}

pub prices-all : (ps : List ℕ) → list_all (λ p. leb p 100000) ps ≡ prices_allowed ps
prices-all [] = refl
prices-all (p ∷ ps) = ap (λ (t : Bool). leb p 100000 && t) (prices-all ps)

-- each limit and the next, by their places
rises : (l : ℕ) (ls : List ℕ) → ((k : ℕ) → k < length ls → ltb (get_or (l ∷ ls) k 0) (get_or ls k 0) ≡ true) → rising_from l ls ≡ true
rises l [] h = refl
rises l (m ∷ ms) h =
    ap (λ (t : Bool). t && rising_from m ms) (h 0 (omega arith)) ∙ rises m ms (λ k n. h (suc k) (omega (arith, n)))

falls : (k l : ℕ) (ls : List ℕ) → k < length ls → ltb (get_or (l ∷ ls) k 0) (get_or ls k 0) ≡ false → rising_from l ls ≡ false
falls k l [] n e = absurd (omega (arith, n))
falls zero l (m ∷ ms) n e = ap (λ (t : Bool). t && rising_from m ms) e
falls (suc k) l (m ∷ ms) n e =
    ap (λ (t : Bool). ltb l m && t) (falls k m ms (omega (arith, n)) e) ∙ never (ltb l m)
  where
    never : (b : Bool) → (b && false) ≡ false
    never true = refl
    never false = refl

pub rising-adjacent : (ls : List ℕ) (r : Bool) → IsAllAdjacentAnswer (λ x y b. b ≡ ltb x y) ls r → r ≡ rising ls
rising-adjacent [] true h = refl
rising-adjacent [] false (k, n, e) = absurd (omega (arith, n))
rising-adjacent (l ∷ ls) true h = sym (rises l ls (λ k n. sym (rw add-one at (h k 0 (omega (arith, n))))))
rising-adjacent (l ∷ ls) false (k, n, e) = sym (falls k l ls (omega (arith, n)) (sym (rw add-one at (e 0))))
