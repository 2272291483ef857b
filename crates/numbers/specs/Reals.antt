-- Document 01, Time and amperes 3, and document 02, Change 5, 2: Reals of 32 bits and counts, once over the unit. A unit is 1 / per of a second.
-- A Real is the library's `Float`: `fin s m e` is m * 2 ^ e, negative where s is true, and 2 ^ e is the fraction up e / down e. Definitions only.
use Rattle.std.specs.Prelude.{Bool, true, false, List, ℕ, suc, ◌*◌, ltb, ℤ, pos, negsuc, neg_ℤ, Float}
use Rattle.std.specs.Float.{nan, inf, fin, binary32}
use Rattle.std.specs.Float.Ieee.{up, down, round, of_bits, to_bits}
use Rattle.std.specs.Float.Ieee.Nearest.{closest}
use Rattle.integers.specs.Bytes.{number, bytes_of}

-- a Real on the wire: its bits in four bytes. Every NaN pattern is the one NaN, which gives $7FC00000
unfoldable pub real_from : List ℕ → Float
real_from bs = of_bits binary32 (number bs)

unfoldable pub real_bytes : Float → List ℕ
real_bytes x = bytes_of 4 (to_bits binary32 x)

-- Change 5, 2: the whole number that a / b units become, the nearest one, and the even one of two that are as near. The one rounding rule for written
-- times, OperatingTime's too.
unfoldable pub whole : ℕ → ℕ → ℕ
whole a b = closest a b

-- a finite Real's magnitude as a whole number of units
unfoldable pub units_of : ℕ → Float → ℕ
units_of per nan = 0
units_of per (inf s) = 0
units_of per (fin s m e) = whole (m * up e * per) (down e)

-- ±n
abbrev pub signed : Bool → ℕ → ℤ
signed false n = pos n
signed true n = neg_ℤ (pos n)

-- the count that a Real time becomes. What is not finite is no time, and stands as 0
unfoldable pub count_of : ℕ → Float → ℤ
unfolding units_of
count_of per nan = pos 0
count_of per (inf s) = pos 0
count_of per (fin s m e) = signed s (units_of per (fin s m e))

-- Time and amperes 3: count / per, rounded to nearest, ties to even
unfoldable pub real_of : ℕ → ℤ → Float
real_of per (pos n) = round binary32 false n per
real_of per (negsuc n) = round binary32 true (suc n) per

-- a finite Real's magnitude is below high units, before anything is rounded
unfoldable pub under : ℕ → ℕ → Float → Bool
under per high nan = false
under per high (inf s) = false
under per high (fin s m e) = ltb (m * up e * per) (high * down e)
