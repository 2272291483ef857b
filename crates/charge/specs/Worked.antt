-- Charges worked out by hand from document 02, Change 4: what every rule comes to, and a refusal of each kind. Sums are in hundredths of a cent. The proofs, by
-- computing, are in proofs/Worked.antt.
use Rattle.std.specs.Prelude.{◌≡◌, [], ◌∷◌, ℕ, pos, neg_ℤ}
use Rattle.charge.specs.declared.Tariff.{Tariff}
use Rattle.charge.specs.Charge.{block_litres, Charged, charged}

-- the tariffs, by their blocks, limits and prices
abbrev pub one : ℕ → Tariff
one p = record { blocks = 1; limits = 0 ∷ 0 ∷ 0 ∷ []; prices = p ∷ 0 ∷ 0 ∷ 0 ∷ [] }

abbrev pub two : ℕ → ℕ → ℕ → Tariff
two l p q = record { blocks = 2; limits = l ∷ 0 ∷ 0 ∷ []; prices = p ∷ q ∷ 0 ∷ 0 ∷ [] }

abbrev pub three : ℕ → ℕ → ℕ → ℕ → ℕ → Tariff
three l p m q r = record { blocks = 3; limits = l ∷ m ∷ 0 ∷ []; prices = p ∷ q ∷ r ∷ 0 ∷ [] }

abbrev pub four : ℕ → ℕ → ℕ → ℕ → ℕ → ℕ → ℕ → Tariff
four l p m q n r s = record { blocks = 4; limits = l ∷ m ∷ n ∷ []; prices = p ∷ q ∷ r ∷ s ∷ [] }

abbrev pub cents : ℕ → Charged
cents n = record { number = 0; cents = n }

abbrev pub no : ℕ → Charged
no number = record { number = number; cents = 0 }

pub record WorkedCharges : Type 0 where
  -- 250 pulses of 10 litres: 1000 × 150 + 1000 × 200 + 500 × 325 = 512500
  pub in_order : charged (pos 100) (pos 350) 10 (three 1000 150 2000 200 325) ≡ cents 5125
  pub its_litres : block_litres 2500 (three 1000 150 2000 200 325) ≡ 1000 ∷ 1000 ∷ 500 ∷ []
  -- the tenth litre is in the first block, the eleventh is not
  pub at_the_limit : charged (pos 0) (pos 10) 1 (two 10 100 200) ≡ cents 10
  pub above_the_limit : charged (pos 0) (pos 11) 1 (two 10 100 200) ≡ cents 12
  -- four blocks: 20 × 135 + 30 × 99 + 30 × 1 + 4 × 51 = 5904, and with a pulse more 6261
  pub four_blocks : charged (pos 0) (pos 12) 7 (four 20 135 50 99 80 1 51) ≡ cents 59
  pub a_pulse_more : charged (pos 0) (pos 13) 7 (four 20 135 50 99 80 1 51) ≡ cents 63
  -- Counter went round: 3 pulses; and a later count that is one less: 4294967295
  pub round : charged (pos 2147483646) (neg_ℤ (pos 2147483647)) 100 (one 49) ≡ cents 147
  pub one_less : charged (pos 5) (pos 4) 1 (one 1) ≡ cents 42949673
  -- 150, rounded once; block by block it would be 3
  pub once : charged (pos 0) (pos 3) 1 (three 1 50 2 50 50) ≡ cents 2
  -- half a cent goes upward, and less than that downward
  pub half : charged (pos 0) (pos 1) 1 (one 50) ≡ cents 1
  pub below_half : charged (pos 0) (pos 1) 1 (one 49) ≡ cents 0
  -- a first block that is empty, and prices that fall to 0: 3 × 100 + 4 × 0
  pub empty_block : charged (pos 0) (pos 7) 1 (three 0 100000 3 100 0) ≡ cents 3
  -- limits of 64 bits
  pub far_limits : charged (pos 0) (pos 2) 10000 (three 4294967296 7 18446744073709551615 100000 0) ≡ cents 1400
  -- the largest charge
  pub largest : charged (pos 1) (pos 0) 10000 (one 100000) ≡ cents 42949672950000000
  -- 16: litres per pulse 0 and 10001; it comes before 17
  pub no_litres : charged (pos 0) (pos 1) 0 (one 100) ≡ no 16
  pub too_many_litres : charged (pos 0) (pos 1) 10001 (one 100) ≡ no 16
  pub litres_first : charged (pos 0) (pos 1) 10001 (three 5 1 5 1 100001) ≡ no 16
  -- 17: no blocks, five, a limit that is the one before or below it, a price too high where no litre comes to it
  pub no_blocks : charged (pos 0) (pos 1) 1 (record { blocks = 0; limits = 0 ∷ 0 ∷ 0 ∷ []; prices = 0 ∷ 0 ∷ 0 ∷ 0 ∷ [] }) ≡ no 17
  pub five_blocks : charged (pos 0) (pos 1) 1 (record { blocks = 5; limits = 1 ∷ 2 ∷ 3 ∷ []; prices = 0 ∷ 0 ∷ 0 ∷ 0 ∷ [] }) ≡ no 17
  pub same_limit : charged (pos 0) (pos 1) 1 (three 10 100 10 200 300) ≡ no 17
  pub lower_limit : charged (pos 0) (pos 1) 1 (three 10 100 9 200 300) ≡ no 17
  pub too_dear : charged (pos 0) (pos 1) 1 (two 1000 100 100001) ≡ no 17
  -- but not past the count of blocks: the second limit is not above the first, nor is the third, and the third price is too high
  pub past_the_count :
      charged (pos 0) (pos 1) 1 (record { blocks = 2; limits = 9 ∷ 9 ∷ 1 ∷ []; prices = 100 ∷ 100 ∷ 100001 ∷ 0 ∷ [] }) ≡ cents 1
