-- Document 01, Time and amperes 4 and 5: which Reals a register allows. A NaN or an infinity is in no range, and −0 tests as 0. Definitions only.
use Rattle.std.specs.Prelude.{Bool, ◌&&◌, ℤ, pos, neg_ℤ, Float}
use Rattle.std.specs.Float.{binary32}
use Rattle.std.specs.Float.Ieee.{of_int, le, lt}

-- low ≤ x; x < high; x ≤ high
unfoldable pub from : ℤ → Float → Bool
from low x = le (of_int binary32 low) x

unfoldable pub below : ℤ → Float → Bool
below high x = lt x (of_int binary32 high)

unfoldable pub up_to : ℤ → Float → Bool
up_to high x = le x (of_int binary32 high)

-- OutTimer and FBTimer: the high end is out
abbrev pub timer_allowed : Float → Bool
timer_allowed x = from (neg_ℤ (pos 8388608)) x && below (pos 8388608) x

-- WDTimer and the presets
abbrev pub preset_allowed : Float → Bool
preset_allowed x = from (pos 0) x && below (pos 8388608) x

-- OperatingTime
abbrev pub operating_allowed : Float → Bool
operating_allowed x = from (pos 0) x && below (pos 536870912) x

-- MinCurrent and MaxCurrent: both ends are in
abbrev pub limit_allowed : Float → Bool
limit_allowed x = from (pos 0) x && up_to (pos 1) x
