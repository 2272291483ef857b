-- Whole numbers of a fixed number of bits. Definitions only.
use Rattle.std.specs.Prelude.{ℕ, suc, ◌-◌, ◌%◌, ◌^◌, cond, ℤ, pos, negsuc, neg_ℤ, int_lt, nat_lt}

-- z modulo m: the number from 0 up to, not including, m that differs from z by a multiple of m. `negsuc n` is −(n + 1)
unfoldable pub modulo : ℤ → ℕ → ℕ
modulo (pos n) m = n % m
modulo (negsuc n) m = m - suc (n % m)

-- the number that k bits stand for in two's complement: from 2 ^ (k − 1) on they stand for 2 ^ k less
unfoldable pub signed_bits : ℕ → ℕ → ℤ
signed_bits k n = cond (nat_lt n (2 ^ (k - 1))) (pos n) (neg_ℤ (pos (2 ^ k - n)))

-- z brought into k signed bits
unfoldable pub wrapped : ℕ → ℤ → ℤ
unfolding modulo signed_bits
wrapped k z = signed_bits k (modulo z (2 ^ k))

-- the larger of two
unfoldable pub larger : ℤ → ℤ → ℤ
larger a b = cond (int_lt a b) b a
