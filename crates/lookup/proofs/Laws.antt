-- The lookup, question by question. Assumes nothing.
use mathlib.Core.Path.{◌≡◌, sym, ◌∙◌}
use mathlib.Core.Bool.{true, false}
use mathlib.Core.List.{List, map}
use Prim.Native.Nat.{ℕ, ◌+◌, ◌<◌}
use native.Mathlib.Numerals.{add-one}
use lib.ListN.{length, get_or, drop, get_or-map}
use lib.Seq.{drop-cons}
use lib.Ieee.{Float, nan, lt, le}
use Rattle.model.specs.declared.Pair.{Pair}
use Rattle.model.specs.Lookup.{zero, pair_of, acting_pair, pair_at, on_line, from_first, looked_up}

-- what stands past the last pair
abbrev zeros : Pair
zeros = pair_of zero zero

-- a pair of the array, as it acts, is the pair that acts
pub acted : (ps : List Pair) (k : ℕ) (p : Pair) → p ≡ acting_pair (get_or ps k (record { x = nan; y = nan })) → p ≡ get_or (map acting_pair ps) k zeros
acted ps k p e = e ∙ sym (get_or-map acting_pair ps k (record { x = nan; y = nan }))

module _ (ps : List Pair) (x : Float) where
  -- X is at or below the first
  pub at_first : (p : Pair) → p ≡ pair_at ps 1 → le x p.x ≡ true → p.y ≡ looked_up ps x
  unfolding looked_up
  at_first p e t = rw (← e, t)

  -- X is above the first and the last
  pub above-last : (p q : Pair) → p ≡ pair_at ps 1 → le x p.x ≡ false → q ≡ pair_at ps 10 → lt q.x x ≡ true → q.y ≡ looked_up ps x
  unfolding looked_up
  above-last p q e t f u = rw (← e, t, ← f, u)

  -- X is above the first, and not above the last
  pub on-the-way : (p q : Pair) → p ≡ pair_at ps 1 → le x p.x ≡ false → q ≡ pair_at ps 10 → lt q.x x ≡ false
      → from_first (pair_at ps 1) (drop 1 ps) x ≡ looked_up ps x
  unfolding looked_up
  on-the-way p q e t f u = rw (← e, t, ← f, u)

  -- a pair that X is above is passed, and the first other one decides
  module _ (p q : Pair) (k : ℕ) (h : k < length ps) (e : q ≡ get_or ps k zeros) where
    pub passed : lt q.x x ≡ true → from_first p (drop k ps) x ≡ from_first q (drop (k + 1) ps) x
    unfolding from_first
    passed t = rw (add-one, drop-cons ps k zeros, ← e, t)

    pub decided : lt q.x x ≡ false → on_line p q x ≡ from_first p (drop k ps) x
    unfolding from_first
    decided t = rw (drop-cons ps k zeros, ← e, t)
