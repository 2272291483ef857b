-- What a reader may rely on in a charge. Document 02, Change 4, 6, is `more-pulses`. The proofs are in proofs/Claims.antt.
use Rattle.std.specs.Prelude.{◌≡◌, Bool, true, false, cond, ◌&&◌, List, [], ◌∷◌, ℕ, zero, suc, ◌+◌, ◌*◌, ◌%◌, ◌^◌, ◌<◌, ◌≤◌, eqb, leb, ℤ, length, get_or, replicate}
use Rattle.counts.specs.Counts.{counter_step}
use Rattle.model.specs.declared.Refusal.{Refusal}
use Rattle.model.specs.Questions.{refusal_number}
use Rattle.charge.specs.declared.Tariff.{Tariff}
use Rattle.charge.specs.Charge.{limits_of, prices_of, pulses, litres, block_litres, hundredths, rounded, question17, charged}

-- ---- the words of the claims
-- the most that there can be, by the ranges of Change 4, 2 and 3
abbrev pub most_litres : ℕ
most_litres = 4294967295 * 10000

abbrev pub most_hundredths : ℕ
most_hundredths = most_litres * 100000

abbrev pub total : List ℕ → ℕ
total [] = 0
total (n ∷ ns) = n + total ns

-- Counter after n rises of InFlag, by the box's own rule
abbrev pub after_rises : ℕ → ℤ → ℤ
after_rises zero z = z
after_rises (suc n) z = counter_step (after_rises n z)

-- the price of litre number n: that of the first block whose limit it is not above, and of the last block where it is above all
abbrev pub price_of : ℕ → List ℕ → List ℕ → ℕ
price_of n ls [] = 0
price_of n [] (p ∷ ps) = p
price_of n (l ∷ ls) (p ∷ ps) = cond (leb n l) p (price_of n ls ps)

-- litres number 1 to n, each at its own price
abbrev pub litre_by_litre : ℕ → List ℕ → List ℕ → ℕ
litre_by_litre zero ls ps = 0
litre_by_litre (suc n) ls ps = litre_by_litre n ls ps + price_of (suc n) ls ps

abbrev pub all_at : ℕ → List ℕ → Bool
all_at p [] = true
all_at p (q ∷ qs) = eqb q p && all_at p qs

abbrev pub one_block : ℕ → Tariff
one_block p = record { blocks = 1; limits = replicate 3 0; prices = p ∷ replicate 3 0 }

-- as every value of the type `Tariff` is
pub record Sized (t : Tariff) : Type 0 where
  pub three : length t.limits ≡ 3
  pub four : length t.prices ≡ 4

-- ---- the claims
pub record Charges : Type 0 where
  -- Change 4, 6
  pub more_pulses : (e l e' l' : ℤ) (k : ℕ) (t : Tariff) → pulses e l ≤ pulses e' l' → (charged e l k t).cents ≤ (charged e' l' k t).cents
  -- Change 4, 7 and 8: which number there is, and no cents where it is refused. The counters do not matter
  pub sixteen : (e l : ℤ) (k : ℕ) (t : Tariff) → ((1 ≤ k) × (k ≤ 10000) → ⊥) → charged e l k t ≡ record { number = 16; cents = 0 }
  pub seventeen : (e l : ℤ) (k : ℕ) (t : Tariff) → 1 ≤ k → k ≤ 10000 → question17 t ≡ false → charged e l k t ≡ record { number = 17; cents = 0 }
  pub done : (e l : ℤ) (k : ℕ) (t : Tariff) → 1 ≤ k → k ≤ 10000 → question17 t ≡ true → (charged e l k t).number ≡ 0
  -- the box itself gives neither of the two
  pub own_numbers : (r : Refusal) → (refusal_number r ≡ 16 → ⊥) × (refusal_number r ≡ 17 → ⊥)
  -- no sum leaves 64 bits, nor does what is added to round it
  pub held : (e l : ℤ) (k : ℕ) (t : Tariff) → (charged e l k t).number ≡ 0 → hundredths (litres e l k) t + 50 < 2 ^ 64
  -- the litres of the blocks are all litres
  pub adds_up : (n : ℕ) (t : Tariff) → question17 t ≡ true → total (block_litres n t) ≡ n
  -- the sum is that of each litre at the price of its block
  pub each_litre : (n : ℕ) (t : Tariff) → question17 t ≡ true → hundredths n t ≡ litre_by_litre n (limits_of t) (prices_of t)
  -- a sum is rounded to the nearest number of cents, the higher where two are as near
  pub nearest : (s : ℕ) → (100 * rounded s ≤ s + 50) × (s + 50 < 100 * rounded s + 100)
  -- blocks of one price are one block
  pub one_price : (e l : ℤ) (k p : ℕ) (t : Tariff) → Sized t → question17 t ≡ true → all_at p (prices_of t) ≡ true
      → charged e l k t ≡ charged e l k (one_block p)
  -- limits and prices past the count of blocks do not matter, nor does the limit that the last block does not have
  pub past_the_count : (e l : ℤ) (k : ℕ) (t u : Tariff) → Sized t → Sized u → t.blocks ≡ u.blocks
      → ((i : ℕ) → i + 1 < t.blocks → get_or t.limits i 0 ≡ get_or u.limits i 0)
      → ((i : ℕ) → i < t.blocks → get_or t.prices i 0 ≡ get_or u.prices i 0) → charged e l k t ≡ charged e l k u
  -- the pulses are the rises that the box has counted, also where Counter went round
  pub rises : (n : ℕ) (z : ℤ) → pulses z (after_rises n z) ≡ n % 4294967296
