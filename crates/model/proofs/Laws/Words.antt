-- Flags as a number, channel 1 at the low end: a flag more, from the last channel down, and the room that is left for it. Assumes nothing.
use mathlib.Core.Path.{◌≡◌}
use mathlib.Core.Bool.{Bool, true, false}
use mathlib.Core.List.{List, [], ◌∷◌, ◌++◌, map}
use Prim.Native.Nat.{ℕ, ◌+◌, ◌^◌, ◌<◌, ◌≤◌}
use native.Mathlib.Nat.{pow-suc, lt_of_lt_of_le}
use native.Mathlib.Omega.{arith}
use lib.ListN.{length, drop, length-append, length-drop, length-map}
use lib.Pow.{pow_mono}
use Rattle.model.specs.declared.Channel.{Channel}
use Rattle.std.specs.List.{push}
use Rattle.model.specs.Errors.{bit_value, word_of}

-- the value of a bit
pub bit-room : (n : ℕ) (b : Bool) → n ≡ bit_value b → n ≤ 1
bit-room n true e = omega (arith, e)
bit-room n false e = omega (arith, e)

word_below : (xs : List Bool) → word_of xs < 2 ^ length xs
word_below [] = omega arith
word_below (true ∷ xs) = let h = word_below xs in rw pow-suc (omega arith)
word_below (false ∷ xs) = let h = word_below xs in rw pow-suc (omega arith)

word_room : (k w : ℕ) (bits : List Bool) → length bits ≤ k + w → word_of (drop k bits) < 2 ^ w
word_room k w bits h =
    let l : length (drop k bits) ≤ w = simp length-drop (omega arith) in
    lt_of_lt_of_le (word_below (drop k bits)) (pow_mono l)

-- ---- a flag of the sixteen channels, as a word, from the last channel down: while one is left, there is room for its flag
pub flags-room : (p : Channel → Bool) (left rest done cs : List Channel) (ch : Channel) → left ≡ push rest ch → left ++ done ≡ cs → length cs ≡ 16
    → word_of (map p done) < 32768
flags-room p left rest done cs ch e f n =
    let l : length left ≡ length rest + 1 = rw (e, length-append) (omega arith) in
    let m : length left + length done ≡ 16 = rw (← length-append, f, n) in
    word_room 0 15 (map p done) (rw length-map (omega arith))
