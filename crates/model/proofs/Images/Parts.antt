-- Parts of a list of bytes: their length, their bytes, and two side by side. Assumes nothing.
use mathlib.Core.Path.{◌≡◌, sym, ap₂}
use mathlib.Core.List.{List, [], ◌∷◌, ◌++◌}
use Prim.Native.Nat.{ℕ, zero, suc, ◌+◌, ◌<◌, ◌≤◌}
use native.Mathlib.Omega.{arith}
use lib.Dec.{T, ltb}
use lib.ListN.{length, take, drop, get_or, length-take, length-drop}
use lib.Pow.{are_bytes}
use lib.Seq.{drop-drop, take-add, drop-cons}
use Rattle.model.specs.Image.{part}
use Rattle.model.proofs.Images.Tests.{both, join}

-- the first and the other bytes are bytes
bytes_take : (n : ℕ) (l : List ℕ) → T (are_bytes l) → T (are_bytes (take n l))
bytes_take zero l t = tt
bytes_take (suc n) [] t = tt
bytes_take (suc n) (b ∷ l) t = let h = both (ltb b 256) (are_bytes l) t in join (ltb b 256) (are_bytes (take n l)) h.0 (bytes_take n l h.1)

pub bytes_drop : (n : ℕ) (l : List ℕ) → T (are_bytes l) → T (are_bytes (drop n l))
bytes_drop zero l t = t
bytes_drop (suc n) [] t = tt
bytes_drop (suc n) (b ∷ l) t = bytes_drop n l (both (ltb b 256) (are_bytes l) t).1

-- a part of bytes is bytes
pub bytes-part : (at n : ℕ) (l : List ℕ) → T (are_bytes l) → T (are_bytes (part at n l))
bytes-part at n l t = bytes_take n (drop at l) (bytes_drop at l t)

-- a part within a list has its length
pub part_length : (at n : ℕ) (l : List ℕ) → at + n ≤ length l → length (part at n l) ≡ n
part_length at n l h = simp (length-take, length-drop) (omega arith)

-- two parts side by side
pub part-more : (at n m : ℕ) (l : List ℕ) → part at n l ++ part (at + n) m l ≡ part at (n + m) l
part-more at n m l = sym (rw (drop-drop n at l) at (take-add n m (drop at l)))

-- one byte as a part
pub one_byte : (at : ℕ) (l : List ℕ) (b : ℕ) → at < length l → get_or l at 0 ≡ b → b ∷ [] ≡ part at 1 l
one_byte at l b h e = rw (drop-cons l at 0 h, e)

-- equal lists side by side
pub beside : {a a' b b' : List ℕ} → a ≡ a' → b ≡ b' → a ++ b ≡ a' ++ b'
beside p q = ap₂ ◌++◌ p q
