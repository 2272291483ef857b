-- Document 01, Head 3: numbers of several bytes. Definitions only.
use Rattle.std.specs.Prelude.{ℕ, zero, suc, ◌+◌, ◌*◌, ◌/◌, ◌%◌, ◌^◌, List, [], ◌∷◌, length, ℤ}
use Rattle.integers.specs.Integers.{modulo, signed_bits}

-- the number that bytes stand for
unfoldable pub number : List ℕ → ℕ
number [] = 0
number (b ∷ bs) = b * 256 ^ length bs + number bs

-- a number in k bytes
unfoldable pub bytes_of : ℕ → ℕ → List ℕ
bytes_of zero n = []
bytes_of (suc k) n = n / 256 ^ k % 256 ∷ bytes_of k n

-- the same for a signed number, in two's complement
unfoldable pub signed_number : List ℕ → ℤ
unfolding number
signed_number bs = signed_bits (8 * length bs) (number bs)

unfoldable pub signed_bytes : ℕ → ℤ → List ℕ
unfolding bytes_of
signed_bytes k z = bytes_of k (modulo z (2 ^ (8 * k)))
