-- The claims of specs/Claims.antt. Each follows from the two's complement of the machine, `to_z` and `of_z`, which the laws of Residues tie to `signed_bits` and
-- `modulo`. Assumes nothing.
use Rattle.std.proofs.Common.{◌≡◌, ℕ, zero, suc, ◌*◌, ◌^◌, ◌<◌, T, List, length, ℤ, sym, refl, ap, ◌∙◌, subst, ap₂, mod-eq_of_lt, pow-suc, mul-suc, pow_pos, pow-add, Fits, SFits, to_z}
use lib.Pow.{are_bytes}
use mir.Syntax.{Width}
use mir.Val.{bits}
use mir.ValLaws.{to_z-of_z, of_z-to_z, to_z-Fits}
use Rattle.integers.specs.Integers.{modulo, signed_bits, wrapped}
use Rattle.integers.specs.Bytes.{number, bytes_of, signed_number, signed_bytes}
use Rattle.integers.specs.Claims.{Wrapped, ComeBack}
use Rattle.integers.proofs.Laws.Residues.{modulo-bits, bits-signed, modulo-lt, residue-fits, wrapped-is}
use Rattle.integers.proofs.Laws.Bytes.{length-bytes, number-bytes, number_lt, bytes-number}

-- ---- two's complement
held : (w : Width) (z : ℤ) → SFits w (wrapped (bits w) z)
held w z = subst (SFits w) (sym (wrapped-is w z)) (to_z-Fits w (modulo z (2 ^ bits w)) (residue-fits w z))

-- the residue of a number that bits stand for is the bits
bits_back : (w : Width) (n : ℕ) → Fits w n → modulo (signed_bits (bits w) n) (2 ^ bits w) ≡ n
bits_back w n F =
    ap (λ (z : ℤ). modulo z (2 ^ bits w)) (bits-signed w n F)
    ∙ modulo-bits w (to_z w n) (to_z-Fits w n F)
    ∙ of_z-to_z w n F

congruent : (w : Width) (z : ℤ) → modulo (wrapped (bits w) z) (2 ^ bits w) ≡ modulo z (2 ^ bits w)
unfolding wrapped
congruent w z = bits_back w (modulo z (2 ^ bits w)) (residue-fits w z)

same : (w : Width) (z : ℤ) → SFits w z → wrapped (bits w) z ≡ z
same w z F = wrapped-is w z ∙ ap (to_z w) (modulo-bits w z F) ∙ to_z-of_z w z F

pub wrapped-claim : Wrapped
wrapped-claim = record { held = held; congruent = congruent; same = same }

-- ---- bytes
power : (k : ℕ) → 2 ^ (8 * k) ≡ 256 ^ k
power zero = refl
power (suc k) = ap (λ (j : ℕ). 2 ^ j) (mul-suc 8 k) ∙ pow-add 2 (8 * k) 8 ∙ ap (λ (m : ℕ). m * 256) (power k) ∙ sym (pow-suc 256 k)

numbers : (k n : ℕ) → n < 256 ^ k → number (bytes_of k n) ≡ n
numbers k n h = number-bytes k n ∙ mod-eq_of_lt h

signed_bytes_lem : (w : Width) (bs : List ℕ) → bits w ≡ 8 * length bs → T (are_bytes bs) → signed_bytes (length bs) (signed_number bs) ≡ bs
unfolding signed_bytes signed_number
signed_bytes_lem w bs e t =
    let F : Fits w (number bs) = record { fits = subst (λ (m : ℕ). number bs < m) (sym (ap (λ (k : ℕ). 2 ^ k) e ∙ power (length bs))) (number_lt bs t) } in
    ap (bytes_of (length bs)) (ap (λ (k : ℕ). modulo (signed_bits k (number bs)) (2 ^ k)) (sym e) ∙ bits_back w (number bs) F)
    ∙ bytes-number bs t

known : (w : Width) (z : ℤ) → SFits w z → signed_bits (bits w) (modulo z (2 ^ bits w)) ≡ z
unfolding wrapped
known w z F = same w z F

signed_numbers : (w : Width) (k : ℕ) → bits w ≡ 8 * k → (z : ℤ) → SFits w z → signed_number (signed_bytes k z) ≡ z
unfolding signed_bytes signed_number
signed_numbers w k e z F =
    let n = modulo z (2 ^ (8 * k)) in
    let h : n < 256 ^ k = subst (λ (m : ℕ). n < m) (power k) (modulo-lt z (2 ^ (8 * k)) (pow_pos (8 * k))) in
    ap₂ (λ (l m : ℕ). signed_bits (8 * l) m) (length-bytes k n) (numbers k n h)
    ∙ ap (λ (b : ℕ). signed_bits b (modulo z (2 ^ b))) (sym e)
    ∙ known w z F

pub come-back : ComeBack
come-back = record { bytes = bytes-number; numbers = numbers; signed_bytes_lem = signed_bytes_lem; signed_numbers = signed_numbers }
