-- Document 02, Change 4, 2 to 5, 7 and 8: the charge for the water between two Counter values, in whole numbers of any size. x - y is 0 where y is the larger.
-- Definitions only.
use Rattle.std.specs.Prelude.{Bool, true, cond, ◌&&◌, List, [], ◌∷◌, ℕ, ◌+◌, ◌*◌, ◌-◌, ◌/◌, min, leb, ltb, ℤ, ◌-ℤ◌, take, Result, Ok, Err}
use Rattle.integers.specs.Integers.{modulo}
use Rattle.charge.specs.declared.ChargeRefusal.{ChargeRefusal}
use Rattle.charge.specs.declared.ChargeRefusal.TheVariants.{LitresPerPulse, Blocks}
use Rattle.charge.specs.declared.Tariff.{Tariff}

-- Change 4, 2: the upper limits of all blocks but the last, and the prices of all. What stands past the count of blocks is not looked at
abbrev pub limits_of : Tariff → List ℕ
limits_of t = take (t.blocks - 1) t.limits

abbrev pub prices_of : Tariff → List ℕ
prices_of t = take t.blocks t.prices

-- Change 4, 3: the later Counter minus the earlier
abbrev pub pulses : ℤ → ℤ → ℕ
pulses earlier later = modulo (later -ℤ earlier) 4294967296

-- Change 4, 2: litres per pulse
abbrev pub litres : ℤ → ℤ → ℕ → ℕ
litres earlier later perPulse = pulses earlier later * perPulse

-- Change 4, 4: the part of n litres in each block in turn: those above the limit before it, up to its own limit, in the last block all of them
abbrev pub filled : ℕ → ℕ → List ℕ → List ℕ
filled n before [] = (n - before) ∷ []
filled n before (limit ∷ limits) = (min n limit - before) ∷ filled n limit limits

abbrev pub block_litres : ℕ → Tariff → List ℕ
block_litres n t = filled n 0 (limits_of t)

-- Change 4, 2: litres at their prices, in hundredths of a cent
abbrev pub priced : List ℕ → List ℕ → ℕ
priced [] ps = 0
priced (n ∷ ns) [] = 0
priced (n ∷ ns) (p ∷ ps) = n * p + priced ns ps

abbrev pub hundredths : ℕ → Tariff → ℕ
hundredths n t = priced (block_litres n t) (prices_of t)

-- Change 4, 5: to a cent, half upward
abbrev pub rounded : ℕ → ℕ
rounded s = (s + 50) / 100

-- ---- Change 4, 7 and 8: the two questions
abbrev pub question16 : ℕ → Bool
question16 perPulse = leb 1 perPulse && leb perPulse 10000

-- each limit above the one before; the first has none before it
abbrev pub rising_from : ℕ → List ℕ → Bool
rising_from l [] = true
rising_from l (m ∷ ms) = ltb l m && rising_from m ms

abbrev pub rising : List ℕ → Bool
rising [] = true
rising (l ∷ ls) = rising_from l ls

abbrev pub prices_allowed : List ℕ → Bool
prices_allowed [] = true
prices_allowed (p ∷ ps) = leb p 100000 && prices_allowed ps

abbrev pub question17 : Tariff → Bool
question17 t = (leb 1 t.blocks && leb t.blocks 4) && (rising (limits_of t) && prices_allowed (prices_of t))

-- ---- the answer: its number, 0 or 16 or 17, and the cents, 0 where it is refused
pub record Charged : Type 0 where
  pub number : ℕ
  pub cents : ℕ

abbrev pub refused : ℕ → Charged
refused number = record { number = number; cents = 0 }

unfoldable pub charged : ℤ → ℤ → ℕ → Tariff → Charged
charged earlier later perPulse t =
    cond (question16 perPulse)
    (cond (question17 t) (record { number = 0; cents = rounded (hundredths (litres earlier later perPulse) t) }) (refused 17))
    (refused 16)

-- ---- what the code answers: the cents, or why there are none
abbrev pub number_of : ChargeRefusal → ℕ
number_of LitresPerPulse = 16
number_of Blocks = 17

abbrev pub answer : Result ℕ ChargeRefusal → Charged
answer (Ok cents) = record { number = 0; cents = cents }
answer (Err why) = refused (number_of why)
