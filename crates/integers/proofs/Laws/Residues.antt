-- The bits of a signed number, and sums modulo 2 ^ 32. Assumes nothing.
use Rattle.std.proofs.Common.{◌≡◌, ℕ, suc, ◌+◌, ◌-◌, ◌%◌, ◌^◌, ◌<◌, ◌≤◌, Bool, true, false, cond, not, T, ltb, ℤ, pos, negsuc, ◌+ℤ◌, ◌-ℤ◌, neg_ℤ, sym, refl, ap, ◌∙◌, mod-lt, mod-eq_of_lt, pow_pos, arith, lit<, ltb→lt, nltb→le, Fits, SFits, to_z, of_z}
use lib.IntN.{+ℤ_assoc, +ℤ_invl, +ℤ_idr}
use mir.Syntax.{Width}
use mir.Val.{sel, bits, hbits}
use mir.ValLaws.{half_full, bits-suc}
use Rattle.integers.specs.Integers.{modulo, signed_bits, wrapped}

-- ---- a signed number's bits are the number modulo 2 ^ bits
pub modulo-bits : (w : Width) (z : ℤ) → SFits w z → modulo z (2 ^ bits w) ≡ of_z w z
unfolding modulo
modulo-bits w (pos n) F = mod-eq_of_lt (half_full w F.sfits)
modulo-bits w (negsuc n) F = ap (λ (k : ℕ). 2 ^ bits w - suc k) (mod-eq_of_lt (half_full w F.sfits))

pub bits-signed : (w : Width) (n : ℕ) → Fits w n → signed_bits (bits w) n ≡ to_z w n
unfolding signed_bits
bits-signed w n F = ap (λ (k : ℕ). cond (ltb n (2 ^ k)) (pos n) (neg_ℤ (pos (2 ^ bits w - n)))) less ∙ ap (cond (ltb n (2 ^ hbits w)) (pos n))
    (ap (λ (k : ℕ). neg_ℤ (pos k)) more) ∙ same (ltb n (2 ^ hbits w))
  where
    less : bits w - 1 ≡ hbits w
    less = omega (arith, bits-suc w)

    more : 2 ^ bits w - n ≡ suc (2 ^ bits w - suc n)
    more = omega (arith, F.fits)

    same : (b : Bool) → cond b (pos n) (negsuc (2 ^ bits w - suc n)) ≡ sel b (pos n) (negsuc (2 ^ bits w - suc n))
    same true = refl
    same false = refl

pub modulo-lt : (z : ℤ) (m : ℕ) → 0 < m → modulo z m < m
unfolding modulo
modulo-lt (pos n) m M = mod-lt n M
modulo-lt (negsuc n) m M = omega arith

pub residue-fits : (w : Width) (z : ℤ) → Fits w (modulo z (2 ^ bits w))
residue-fits w z = record { fits = modulo-lt z (2 ^ bits w) (pow_pos (bits w)) }

pub wrapped-is : (w : Width) (z : ℤ) → wrapped (bits w) z ≡ to_z w (modulo z (2 ^ bits w))
unfolding wrapped
wrapped-is w z = bits-signed w (modulo z (2 ^ bits w)) (residue-fits w z)

-- ---- sums modulo 2 ^ 32
plus-minus : (a b : ℕ) → modulo (pos a +ℤ negsuc b) 4294967296 ≡ (a % 4294967296 + (4294967296 - suc (b % 4294967296))) % 4294967296
unfolding modulo
plus-minus a b = go (ltb a (suc b)) (ltb→lt a (suc b)) (nltb→le a (suc b))
  where
    go : (t : Bool) → (T t → a < suc b) → (T (not t) → suc b ≤ a) → modulo (cond t (negsuc (suc b - suc a)) (pos (a - suc b))) 4294967296 ≡
        (a % 4294967296 + (4294967296 - suc (b % 4294967296))) % 4294967296
    go true h k = let l = h tt in omega arith
    go false h k = let l = k tt in omega arith

pub modulo-add : (x y : ℤ) → modulo (x +ℤ y) 4294967296 ≡ (modulo x 4294967296 + modulo y 4294967296) % 4294967296
unfolding modulo
modulo-add (pos a) (pos b) = omega arith
modulo-add (pos a) (negsuc b) = plus-minus a b
modulo-add (negsuc a) (pos b) = omega (arith, plus-minus b a)
modulo-add (negsuc a) (negsuc b) = omega arith

-- the number that b added to gives a again
pub modulo-sub : (a b : ℤ) (r : ℕ) → r < 4294967296 → (r + modulo b 4294967296) % 4294967296 ≡ modulo a 4294967296 → r ≡ modulo (a -ℤ b) 4294967296
modulo-sub a b r R e =
    let back : (a -ℤ b) +ℤ b ≡ a = +ℤ_assoc a (neg_ℤ b) b ∙ ap (λ (z : ℤ). a +ℤ z) (+ℤ_invl b) ∙ +ℤ_idr a in
    let d : (modulo (a -ℤ b) 4294967296 + modulo b 4294967296) % 4294967296 ≡ modulo a 4294967296 = sym (modulo-add (a -ℤ b) b) ∙ ap
    (λ (z : ℤ). modulo z 4294967296) back in
    cancel r (modulo (a -ℤ b) 4294967296) (modulo b 4294967296) R (modulo-lt (a -ℤ b) 4294967296 (lit< tt)) (modulo-lt b 4294967296 (lit< tt)) (e ∙ sym d)
  where
    cancel : (x y m : ℕ) → x < 4294967296 → y < 4294967296 → m < 4294967296 → (x + m) % 4294967296 ≡ (y + m) % 4294967296 → x ≡ y
    cancel x y m X Y M e = omega arith
