-- What a reader may rely on in the definitions of this crate. The proofs are in proofs/Claims.antt.
use Rattle.std.specs.Prelude.{◌≡◌, true, false, not, List, [], ◌∷◌, ℕ, ◌*◌, ◌%◌, ◌^◌, ◌≤◌, ◌<◌, T, ℤ, pos, negsuc, nat_abs, ◌-ℤ◌, ◌*ℤ◌, length, Float}
use Rattle.std.proofs.Math.Pow.{are_bytes}
use Rattle.std.specs.Float.{nan, inf, fin, binary32}
use Rattle.std.specs.Float.Ieee.{up, down, is_nan, fits}
use Rattle.std.specs.Int.{w32}
use Rattle.std.proofs.Common.{SFits}
use Rattle.counts.specs.Counts.{timer_units, operating_units}
use Rattle.numbers.specs.Reals.{real_from, real_bytes, signed, units_of, count_of, real_of, under}
use Rattle.numbers.specs.Written.{timer_allowed, preset_allowed, operating_allowed}

-- Four bytes that are no NaN's come back from their Real as they were, −0's too, and a Real of 32 bits from its bytes. Any NaN's give $7FC00000.
pub record ComeBack : Type 0 where
  pub bytes : (bs : List ℕ) → length bs ≡ 4 → T (are_bytes bs) → T (not (is_nan (real_from bs))) → real_bytes (real_from bs) ≡ bs
  pub reals : (x : Float) → T (fits binary32 x) → real_from (real_bytes x) ≡ x
  pub not_a_number : (bs : List ℕ) → T (is_nan (real_from bs)) → real_bytes (real_from bs) ≡ 0x7F ∷ 0xC0 ∷ 0 ∷ 0 ∷ []

-- how far a finite Real is from z counts, in parts of 1 / down e of a count
abbrev pub distance : ℕ → Float → ℤ → ℕ
distance per nan z = 0
distance per (inf s) z = 0
distance per (fin s m e) z = nat_abs (signed s (m * up e * per) -ℤ z *ℤ pos (down e))

-- Change 5, 2: no count is nearer to a written time than its own, and where another is as near, its own is even. Over any unit, and so for every written time.
pub record Nearest : Type 0 where
  pub nearest : (per : ℕ) (x : Float) (z : ℤ) → distance per x (count_of per x) ≤ distance per x z
  pub even : (per : ℕ) (x : Float) (z : ℤ) → (z ≡ count_of per x → ⊥) → distance per x z ≡ distance per x (count_of per x) → nat_abs (count_of per x) % 2 ≡ 0

-- Change 5, 3: no Real inside a range rounds past the largest count; and so what is written stays in the bits of its count. `fits binary32 x` says that x is a
-- Real of 32 bits, which all that the wire brings is.
pub record WritesHeld : Type 0 where
  pub wire : (bs : List ℕ) → T (fits binary32 (real_from bs))
  -- over the unit, and any range of 2 ^ 24 counts or more
  pub inside : (per end : ℕ) (x : Float) → 2 ^ 24 ≤ end * per → T (fits binary32 x) → T (under 1 end x) → units_of per x < end * per
  -- for each range; a preset's count and an operating count are not negative
  pub timers : (x : Float) → T (fits binary32 x) → T (timer_allowed x) → SFits w32 (count_of timer_units x)
  pub presets : (x : Float) → T (fits binary32 x) → T (preset_allowed x) → (count_of timer_units x ≡ pos (units_of timer_units x)) × (units_of timer_units x < 2 ^ 31)
  pub operating : (x : Float) → T (fits binary32 x) → T (operating_allowed x) → units_of operating_units x < 2 ^ 32
  pub operating_sign : (x : Float) → T (operating_allowed x) → count_of operating_units x ≡ pos (units_of operating_units x)

-- Change 5, 3: a range is asked of the Real, not of the count: a Real below 0 is no preset and no operating time, also where its count is 0.
pub record BeforeRounding : Type 0 where
  pub presets : (m : ℕ) (e : ℤ) → 0 < m → preset_allowed (fin true m e) ≡ false
  pub operating : (m : ℕ) (e : ℤ) → 0 < m → operating_allowed (fin true m e) ≡ false
  -- −1/1024 s would become 0 in either unit
  pub rounds_to_zero : (count_of timer_units (fin true 1 (negsuc 9)) ≡ pos 0) × (count_of operating_units (fin true 1 (negsuc 9)) ≡ pos 0)

-- at most 24 significant bits
pub record Within24 (n : ℕ) : Type 0 where
  pub digits : ℕ
  pub places : ℕ
  pub few : digits < 2 ^ 24
  pub is : n ≡ digits * 2 ^ places

-- Written times read back. A unit is 2 ^ -u s: timer_units is 2 ^ 8, operating_units 2 ^ 3. The smallest Real is 2 ^ -149, and up to 2 ^ 32 no count leaves the
-- Reals.
pub record ReadBack : Type 0 where
  -- a count of at most 24 significant bits that is read, and its four bytes written, is the count again
  pub back : (u : ℕ) (z : ℤ) → u ≤ 149 → nat_abs z ≤ 2 ^ 32 → Within24 (nat_abs z) → count_of (2 ^ u) (real_from (real_bytes (real_of (2 ^ u) z))) ≡ z
  -- its register takes them
  pub timers : (z : ℤ) → SFits w32 z → Within24 (nat_abs z) → timer_allowed (real_from (real_bytes (real_of timer_units z))) ≡ true
  pub presets : (n : ℕ) → n < 2 ^ 31 → Within24 n → preset_allowed (real_from (real_bytes (real_of timer_units (pos n)))) ≡ true
  pub operating : (n : ℕ) → n < 2 ^ 32 → Within24 n → operating_allowed (real_from (real_bytes (real_of operating_units (pos n)))) ≡ true
  -- and every written count is such a count
  pub written : (u : ℕ) (x : Float) → T (fits binary32 x) → Within24 (nat_abs (count_of (2 ^ u) x))
