-- Bytes and the number that they stand for, over how many they are. Assumes nothing.
use Rattle.std.proofs.Common.{◌≡◌, ℕ, zero, suc, ◌+◌, ◌*◌, ◌/◌, ◌%◌, ◌^◌, ◌<◌, Bool, true, false, ◌&&◌, T, ltb, List, [], ◌∷◌, length, sym, refl, ap, ◌∙◌, subst, ap₂, le_of_eq, lt_of_lt_of_le, mod-eq_of_lt, mul_assoc, mul_comm, add_comm, mul-pos, pow-suc, lit<, ltb→lt}
use native.Mathlib.Nat.{add-mul-div_right, mul-add-mod_self_right, mod-one}
use lib.Arith.{digits_lt, digits_div, mod-mul}
use lib.Pow.{are_bytes}
use Rattle.integers.specs.Bytes.{number, bytes_of}

pub power_pos : (k : ℕ) → 0 < 256 ^ k
power_pos zero = lit< tt
power_pos (suc k) = subst (λ (n : ℕ). 0 < n) (sym (pow-suc 256 k)) (mul-pos (power_pos k) (lit< tt))

power-suc : (k : ℕ) → 256 * 256 ^ k ≡ 256 ^ suc k
power-suc k = mul_comm 256 (256 ^ k) ∙ sym (pow-suc 256 k)

both : (a b : Bool) → T (a && b) → T a × T b
both true b t = (tt, t)
both false b t = absurd t

-- ---- the bytes of a number
pub length-bytes : (k n : ℕ) → length (bytes_of k n) ≡ k
unfolding bytes_of
length-bytes zero n = refl
length-bytes (suc k) n = ap suc (length-bytes k n)

pub number-bytes : (k n : ℕ) → number (bytes_of k n) ≡ n % 256 ^ k
unfolding bytes_of number
number-bytes zero n = sym (mod-one n)
number-bytes (suc k) n =
    ap₂ (λ (l r : ℕ). n / 256 ^ k % 256 * 256 ^ l + r) (length-bytes k n) (number-bytes k n)
    ∙ sym (mod-mul n (lit< tt) (power_pos k))
    ∙ ap (λ (m : ℕ). n % m) (power-suc k)

-- ---- the number of bytes
pub number_lt : (bs : List ℕ) → T (are_bytes bs) → number bs < 256 ^ length bs
unfolding number
number_lt [] t = lit< tt
number_lt (b ∷ bs) t =
    let h = both (ltb b 256) (are_bytes bs) t in
    lt_of_lt_of_le (digits_lt (ltb→lt b 256 h.0) (number_lt bs h.1)) (le_of_eq (power-suc (length bs)))

-- what stands above the k lowest bytes does not show in them
higher : (k q n : ℕ) → bytes_of k (q * 256 ^ k + n) ≡ bytes_of k n
unfolding bytes_of
higher zero q n = refl
higher (suc k) q n =
    let e : q * 256 ^ suc k ≡ q * 256 * 256 ^ k = ap (λ (m : ℕ). q * m) (sym (power-suc k)) ∙ sym (mul_assoc q 256 (256 ^ k)) in
    let top : (q * 256 * 256 ^ k + n) / 256 ^ k % 256 ≡ n / 256 ^ k % 256 =
    ap (λ (m : ℕ). m / 256 ^ k % 256) (add_comm (q * 256 * 256 ^ k) n)
    ∙ ap (λ (m : ℕ). m % 256) (add-mul-div_right n (q * 256) (power_pos k) ∙ add_comm (n / 256 ^ k) (q * 256))
    ∙ mul-add-mod_self_right q 256 (n / 256 ^ k) in
    ap (λ (m : ℕ). (m + n) / 256 ^ k % 256 ∷ bytes_of k (m + n)) e ∙ ap₂ (λ (b : ℕ) (bs : List ℕ). b ∷ bs) top (higher k (q * 256) n)

pub bytes-number : (bs : List ℕ) → T (are_bytes bs) → bytes_of (length bs) (number bs) ≡ bs
unfolding bytes_of number
bytes-number [] t = refl
bytes-number (b ∷ bs) t =
    let h = both (ltb b 256) (are_bytes bs) t in
    ap₂ (λ (c : ℕ) (cs : List ℕ). c ∷ cs)
    (ap (λ (m : ℕ). m % 256) (digits_div b (number_lt bs h.1)) ∙ mod-eq_of_lt (ltb→lt b 256 h.0))
    (higher (length bs) b (number bs) ∙ bytes-number bs h.1)
