-- What the code writes otherwise than the definitions. Assumes nothing.
use mathlib.Core.Path.{◌≡◌, refl, sym, ap, ap₂, ◌∙◌}
use mathlib.Core.Bool.{Bool, true, false, not, xor, ◌&&◌, ◌||◌, beq}
use Prim.Native.Nat.{ℕ, zero, suc, ◌+◌, ◌*◌, ◌/◌, ◌%◌, ◌^◌, ◌<◌, ◌≤◌, max}
use native.Mathlib.Nat.{mod-lt, zero-lt-suc, max-le}
use native.Mathlib.Numerals.{unary_clauses}
use native.Mathlib.Omega.{arith}
use lib.Arith.{bin_ind}
use lib.Bits.{bit_or, or_step}
use lib.IntN.{ℤ, pos, negsuc}
use Rattle.integers.specs.Integers.{modulo}
use Rattle.model.specs.Tick.{weight}

-- the bits of a signed number of 32 bits have its remainder by 32
pub remainder : (z : ℤ) → modulo z (2 ^ 32) % 32 ≡ modulo z 32
unfolding modulo
remainder (pos n) = omega arith
remainder (negsuc n) = omega arith

-- feedback A is wrong where it differs from the output
pub differs : (a b x y out : Bool) → (a && not (beq x out)) || (b && beq y out) ≡ (a && xor x out) || (b && beq y out)
unfolding xor
differs a b true y true = refl
differs a b true y false = refl
differs a b false y true = refl
differs a b false y false = refl

-- ---- the bits of step 6
-- where the output is on, there is no short circuit
pub on-bits : (below passed enabled wired input driven leak over : Bool)
    → bit_or (weight 5 (below && passed && enabled)) (weight 2 (wired && (not input && not over)))
    ≡ bit_or (weight 5 (below && true && passed && enabled))
    (bit_or (weight 4 (wired && (input && false && driven))) (bit_or (weight 3 (wired && (false && leak))) (weight 2 (wired && (true && not input && not over)))))
on-bits true passed enabled true true driven leak over = refl
on-bits true passed enabled true false driven leak over = refl
on-bits true passed enabled false input driven leak over = refl
on-bits false passed enabled true true driven leak over = refl
on-bits false passed enabled true false driven leak over = refl
on-bits false passed enabled false input driven leak over = refl

-- where it is off, there is no underload, and nothing is disconnected
pub off-bits : (below passed enabled wired input driven leak over : Bool)
    → bit_or (weight 4 (wired && (input && driven))) (weight 3 (wired && leak))
    ≡ bit_or (weight 5 (below && false && passed && enabled))
    (bit_or (weight 4 (wired && (input && true && driven))) (bit_or (weight 3 (wired && (true && leak))) (weight 2 (wired && (false && not input && not over)))))
off-bits true passed enabled true true driven true over = refl
off-bits true passed enabled true true driven false over = refl
off-bits true passed enabled true false driven true over = refl
off-bits true passed enabled true false driven false over = refl
off-bits true passed enabled false input driven leak over = refl
off-bits false passed enabled true true driven true over = refl
off-bits false passed enabled true true driven false over = refl
off-bits false passed enabled true false driven true over = refl
off-bits false passed enabled true false driven false over = refl
off-bits false passed enabled false input driven leak over = refl

max-bit : (x y : ℕ) → x < 2 → y < 2 → max x y < 2
max-bit x y h l = let m : max x y ≤ 1 = max-le (omega (arith, h)) (omega (arith, l)) in omega (arith, m)

max_assoc : (x y z : ℕ) → max (max x y) z ≡ max x (max y z)
max_assoc zero y z = simp unary_clauses refl
max_assoc (suc x) zero z = simp unary_clauses refl
max_assoc (suc x) (suc y) zero = simp unary_clauses refl
max_assoc (suc x) (suc y) (suc z) = simp unary_clauses (ap suc (max_assoc x y z))

-- the lowest digit of a union, and the rest of it
or-digit : (a b : ℕ) → bit_or a b % 2 ≡ max (a % 2) (b % 2)
or-digit a b =
    let e = or_step a b in
    let m = max-bit (a % 2) (b % 2) (mod-lt a (zero-lt-suc 1)) (mod-lt b (zero-lt-suc 1)) in
    omega (arith, e, m)

or-half : (a b : ℕ) → bit_or a b / 2 ≡ bit_or (a / 2) (b / 2)
or-half a b =
    let e = or_step a b in
    let m = max-bit (a % 2) (b % 2) (mod-lt a (zero-lt-suc 1)) (mod-lt b (zero-lt-suc 1)) in
    omega (arith, e, m)

pub or_assoc : (a b c : ℕ) → bit_or (bit_or a b) c ≡ bit_or a (bit_or b c)
or_assoc = bin_ind (λ (n : ℕ). (b c : ℕ) → bit_or (bit_or n b) c ≡ bit_or n (bit_or b c)) (λ b c. refl) (λ n ih b c.
    or_step (bit_or n b) c
    ∙ ap₂ (λ (x y : ℕ). bit_or x (c / 2) * 2 + max y (c % 2)) (or-half n b) (or-digit n b)
    ∙ ap₂ (λ (x y : ℕ). x * 2 + y) (ih (b / 2) (c / 2)) (max_assoc (n % 2) (b % 2) (c % 2))
    ∙ sym (ap₂ (λ (x y : ℕ). bit_or (n / 2) x * 2 + max (n % 2) y) (or-half b c) (or-digit b c))
    ∙ sym (or_step n (bit_or b c)))
