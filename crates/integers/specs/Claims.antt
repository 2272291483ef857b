-- What a reader may rely on in the definitions of this crate, over the width. The proofs are in proofs/Claims.antt.
use Rattle.std.specs.Prelude.{◌≡◌, ℕ, ◌*◌, ◌^◌, ◌<◌, T, List, length, ℤ, FitsSigned}
use Rattle.std.proofs.Math.Pow.{are_bytes}
use Rattle.std.specs.Int.{Width}
use mir.Val.{bits}
use Rattle.integers.specs.Integers.{modulo, wrapped}
use Rattle.integers.specs.Bytes.{number, bytes_of, signed_number, signed_bytes}

-- A number brought into the signed bits of a width has them, differs by a multiple of 2 ^ bits, and is the number itself where that has them. `FitsSigned w z`
-- says that z is from −2 ^ (bits − 1) up to, not including, 2 ^ (bits − 1).
pub record Wrapped : Type 0 where
  pub held : (w : Width) (z : ℤ) → FitsSigned w (wrapped (bits w) z)
  pub congruent : (w : Width) (z : ℤ) → modulo (wrapped (bits w) z) (2 ^ bits w) ≡ modulo z (2 ^ bits w)
  pub same : (w : Width) (z : ℤ) → FitsSigned w z → wrapped (bits w) z ≡ z

-- Bytes come back from their number, and a number from its bytes, signed or not.
pub record ComeBack : Type 0 where
  pub bytes : (bs : List ℕ) → T (are_bytes bs) → bytes_of (length bs) (number bs) ≡ bs
  pub numbers : (k n : ℕ) → n < 256 ^ k → number (bytes_of k n) ≡ n
  pub signed_bytes_lem : (w : Width) (bs : List ℕ) → bits w ≡ 8 * length bs → T (are_bytes bs) → signed_bytes (length bs) (signed_number bs) ≡ bs
  pub signed_numbers : (w : Width) (k : ℕ) → bits w ≡ 8 * k → (z : ℤ) → FitsSigned w z → signed_number (signed_bytes k z) ≡ z
