-- Written times worked out by hand (document 02, Change 5, 1 and 2). A word is a Real's bits. The proofs, by computation, are in proofs/Worked.antt.
use Rattle.std.specs.Prelude.{◌≡◌, List, [], ◌∷◌, map, ℕ, ◌+◌, ℤ, pos, neg_ℤ}
use Rattle.std.specs.Float.{binary32}
use Rattle.std.specs.Float.Ieee.{of_bits}
use Rattle.counts.specs.Counts.{timer_units, operating_units}
use Rattle.numbers.specs.Reals.{units_of, count_of}

-- the count of a word in units of 1 / per s, and that of the word with the sign
abbrev pub count_from : ℕ → ℕ → ℤ
count_from per w = count_of per (of_bits binary32 w)

abbrev pub minus_from : ℕ → ℕ → ℤ
minus_from per w = count_of per (of_bits binary32 (0x8000_0000 + w))

-- the words become these counts, and with the sign their opposites
abbrev pub Become : ℕ → List ℕ → List ℕ → Type 0
Become per ws ns = (map (count_from per) ws ≡ map pos ns) × (map (minus_from per) ws ≡ map (λ n. neg_ℤ (pos n)) ns)

-- the Reals nearest to 0.1 s, 0.2 s and so on to 1.0 s
abbrev pub tenths : List ℕ
tenths = 0x3DCC_CCCD ∷ 0x3E4C_CCCD ∷ 0x3E99_999A ∷ 0x3ECC_CCCD ∷ 0x3F00_0000 ∷ 0x3F19_999A ∷ 0x3F33_3333 ∷ 0x3F4C_CCCD ∷ 0x3F66_6666 ∷ 0x3F80_0000 ∷ []

pub record WorkedTimes : Type 0 where
  -- what an installer types; the opposites show that the rule does not look at the sign
  pub typed : Become timer_units tenths (26 ∷ 51 ∷ 77 ∷ 102 ∷ 128 ∷ 154 ∷ 179 ∷ 205 ∷ 230 ∷ 256 ∷ [])
  pub typed_operating : Become operating_units tenths (1 ∷ 2 ∷ 2 ∷ 3 ∷ 4 ∷ 5 ∷ 6 ∷ 6 ∷ 7 ∷ 8 ∷ [])
  -- 0.5, 1.5, 2.5 and 3.5 counts, each between the Reals next to it
  pub ties : Become timer_units
      (0x3AFF_FFFF ∷ 0x3B00_0000 ∷ 0x3B00_0001 ∷ 0x3BBF_FFFF ∷ 0x3BC0_0000 ∷ 0x3BC0_0001 ∷ 0x3C1F_FFFF ∷ 0x3C20_0000 ∷ 0x3C20_0001 ∷ 0x3C5F_FFFF ∷ 0x3C60_0000
      ∷ 0x3C60_0001 ∷ []) (0 ∷ 0 ∷ 1 ∷ 1 ∷ 2 ∷ 2 ∷ 2 ∷ 2 ∷ 3 ∷ 3 ∷ 4 ∷ 4 ∷ [])
  pub ties_operating : Become operating_units
      (0x3D7F_FFFF ∷ 0x3D80_0000 ∷ 0x3D80_0001 ∷ 0x3E3F_FFFF ∷ 0x3E40_0000 ∷ 0x3E40_0001 ∷ 0x3E9F_FFFF ∷ 0x3EA0_0000 ∷ 0x3EA0_0001 ∷ 0x3EDF_FFFF ∷ 0x3EE0_0000
      ∷ 0x3EE0_0001 ∷ []) (0 ∷ 0 ∷ 1 ∷ 1 ∷ 2 ∷ 2 ∷ 2 ∷ 2 ∷ 3 ∷ 3 ∷ 4 ∷ 4 ∷ [])
  -- the two largest ties, 8388606.5 and 8388607.5 counts
  pub last_ties : Become timer_units (0x46FF_FFFD ∷ 0x46FF_FFFF ∷ []) (8388606 ∷ 8388608 ∷ [])
  pub last_ties_operating : Become operating_units (0x497F_FFFD ∷ 0x497F_FFFF ∷ []) (8388606 ∷ 8388608 ∷ [])
  -- the last Real below the high end, and the low end
  pub high_timer : count_from timer_units 0x4AFF_FFFF ≡ pos 2147483520
  pub low_timer : minus_from timer_units 0x4B00_0000 ≡ neg_ℤ (pos 2147483648)
  pub high_operating : units_of operating_units (of_bits binary32 0x4DFF_FFFF) ≡ 4294967040
