-- Bits of a number, read one by one from the highest down, and whether any is set. Assumes nothing.
use mathlib.Core.Path.{◌≡◌, refl}
use mathlib.Core.Bool.{Bool, true, false, ◌||◌, not, or-false, or_assoc}
use mathlib.Core.List.{List, [], ◌∷◌, ◌++◌, map, reverse}
use Prim.Native.Nat.{ℕ, zero, suc, ◌+◌, ◌*◌, ◌^◌, ◌<◌, ◌≤◌}
use native.Mathlib.Nat.{pow-suc, lt_of_lt_of_le}
use native.Mathlib.Numerals.{add-one}
use native.Mathlib.Omega.{arith}
use lib.Dec.{eqb}
use lib.ListN.{length, get_or, take, length-append, length-take, length-map}
use lib.Pow.{pow_mono}
use lib.Seq.{take-suc}
use borrow.Author.Tests.{ne_eqb}
use Rattle.integers.specs.Bytes.{bytes_of}
use Rattle.model.specs.declared.Channel.{Channel}
use Rattle.model.specs.State.{nothing}
use Rattle.model.specs.Errors.{bit_value, byte_of, word_of, any}

-- ---- the highest bit first
-- a bit more, at the low end
pub byte-snoc : (xs : List Bool) (b : Bool) → byte_of (xs ++ (b ∷ [])) ≡ byte_of xs * 2 + bit_value b
byte-snoc [] true = refl
byte-snoc [] false = refl
byte-snoc (true ∷ xs) b =
    let h = byte-snoc xs b in
    let twice : 2 ^ length (xs ++ (b ∷ [])) ≡ 2 ^ length xs * 2 = rw (length-append, add-one, pow-suc) in
    omega arith
byte-snoc (false ∷ xs) b = let h = byte-snoc xs b in omega arith

pub byte_step : (k : ℕ) (bits : List Bool) → k < length bits → byte_of (take k bits) * 2 + bit_value (get_or bits k false) ≡ byte_of (take (suc k) bits)
byte_step k bits h = rw (take-suc bits k false, byte-snoc)

byte-below : (xs : List Bool) → byte_of xs < 2 ^ length xs
byte-below [] = omega arith
byte-below (true ∷ xs) = let h = byte-below xs in rw pow-suc (omega arith)
byte-below (false ∷ xs) = let h = byte-below xs in rw pow-suc (omega arith)

-- w bits and fewer make a number below 2^w
pub byte-room : (k w : ℕ) (bits : List Bool) → k ≤ w → byte_of (take k bits) < 2 ^ w
byte-room k w bits h =
    let l : length (take k bits) ≤ w = simp length-take (omega arith) in
    lt_of_lt_of_le (byte-below (take k bits)) (pow_mono l)

-- ---- the lowest bit first
-- a bit more, at the high end
pub word-snoc : (xs : List Bool) (b : Bool) → word_of (xs ++ (b ∷ [])) ≡ word_of xs + bit_value b * 2 ^ length xs
word-snoc [] true = refl
word-snoc [] false = refl
word-snoc (x ∷ xs) true = rw (word-snoc xs true, pow-suc) (omega arith)
word-snoc (x ∷ xs) false = rw (word-snoc xs false) (omega arith)

-- ---- that any channel has a flag: one channel more, and that it is so where the word of all is not 0
any_snoc : (p : Channel → Bool) (cs : List Channel) (ch : Channel) → any p (cs ++ (ch ∷ [])) ≡ any p cs || p ch
any_snoc p [] ch = or-false (p ch)
any_snoc p (x ∷ cs) ch = rw (any_snoc p cs ch, or_assoc)

pub any_next : (p : Channel → Bool) (cs : List Channel) (k : ℕ) (a b : Bool) → k < length cs → a ≡ any p (take k cs) → b ≡ p (get_or cs k nothing)
    → a || b ≡ any p (take (k + 1) cs)
any_next p cs k a b h e q = rw (add-one, take-suc cs k nothing, any_snoc, e, q)

or-not-zero : (b : Bool) (a : Bool) (w : ℕ) → a ≡ not (eqb w 0) → b || a ≡ not (eqb (bit_value b + 2 * w) 0)
or-not-zero true a w e = rw (ne_eqb (1 + 2 * w) 0 (λ z. omega (arith, z)))
or-not-zero false a zero e = e
or-not-zero false a (suc w) e = rw (ne_eqb (0 + 2 * suc w) 0 (λ z. omega (arith, z))) (rw (ne_eqb (suc w) 0 (λ z. omega (arith, z))) at e)

pub any_word : (p : Channel → Bool) (cs : List Channel) → any p cs ≡ not (eqb (word_of (map p cs)) 0)
any_word p [] = refl
any_word p (ch ∷ cs) = or-not-zero (p ch) (any p cs) (word_of (map p cs)) (any_word p cs)

-- ---- the number of ComHis and ComAct, from the word of the sixteen channels
pub com-number : (p : Channel → Bool) (cs : List Channel) → length cs ≡ 16
    → word_of (false ∷ (map p cs ++ (any p cs ∷ []))) ≡ word_of (map p cs) * 2 + bit_value (any p cs) * 131072
com-number p cs n = rw (word-snoc, length-map, n) (omega arith)

-- the three low bytes of four, the lowest first
pub low_first : (n : ℕ) → get_or (bytes_of 4 n) 3 0 ∷ get_or (bytes_of 4 n) 2 0 ∷ get_or (bytes_of 4 n) 1 0 ∷ [] ≡ reverse (bytes_of 3 n)
unfolding bytes_of
low_first n = refl
