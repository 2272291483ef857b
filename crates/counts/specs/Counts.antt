-- Document 01, Time and amperes 1, A tick 1, 2 and 5, A channel 10, and document 02, Change 2, 2, with Change 1, 9: the units of counts, and how each count moves. A tick, 1/32 s,
-- is 8 in a timer count and a quarter in an operating count.
-- Definitions only.
use Rattle.std.specs.Prelude.{Bool, cond, ℕ, ◌+◌, min, eqb, leb, ℤ, pos, neg_ℤ, ◌+ℤ◌, ◌-ℤ◌}
use Rattle.std.specs.Int.Signed.{lt_z}
use Rattle.counts.specs.declared.TimerCount.{TimerCount}
use Rattle.counts.specs.declared.OperatingCount.{OperatingCount}
use Rattle.counts.specs.declared.Operating.{Operating}
use Rattle.integers.specs.Integers.{wrapped, larger}

-- how many of a count's units make a second
abbrev pub timer_units : ℕ
timer_units = 256

abbrev pub operating_units : ℕ
operating_units = 8

-- a timer count by its number
abbrev pub timer : ℤ → TimerCount
timer z = record { 0 = z }

-- A tick 1: FreeRunTimer, up, round through its lowest number
unfoldable pub free_run_tick : TimerCount → TimerCount
free_run_tick t = timer (wrapped 32 (t.0 +ℤ pos 8))

-- A tick 1: WDTimer, down to 0 and no further
unfoldable pub watchdog_tick : TimerCount → TimerCount
watchdog_tick t = timer (larger (t.0 -ℤ pos 8) (pos 0))

-- A tick 2: OutTimer, down, round through its highest number
unfoldable pub out_timer_tick : TimerCount → TimerCount
out_timer_tick t = timer (wrapped 32 (t.0 -ℤ pos 8))

-- A tick 2: FBTimer, down to its lowest number and no further
unfoldable pub feedback_tick : TimerCount → TimerCount
feedback_tick t = timer (larger (t.0 -ℤ pos 8) (neg_ℤ (pos 2147483648)))

-- A tick 5: the operating count, up to its highest number and no further
unfoldable pub operating_step : OperatingCount → OperatingCount
operating_step n = record { 0 = min (n.0 + 1) 4294967295 }

-- Change 2, 2: an operating time that is given by its count has no quarters
abbrev pub operating_of : OperatingCount → Operating
operating_of n = record { count = n; quarters = 0 }

-- the quarters as they act: 0 to 3, and any other number as 0 (Change 1, 9)
abbrev pub quarters_of : Operating → ℕ
quarters_of t = cond (leb t.quarters 3) t.quarters 0

-- Change 2, 2: a quarter more; the fourth makes one of the count
unfoldable pub operating_tick : Operating → Operating
operating_tick t = cond (eqb (quarters_of t) 3) (operating_of (operating_step t.count)) (record { count = t.count; quarters = quarters_of t + 1 })

-- A channel 10: Counter, up, round through its lowest number
unfoldable pub counter_step : ℤ → ℤ
counter_step n = wrapped 32 (n +ℤ pos 1)

-- a timer count compared with 0
unfoldable pub is_negative : TimerCount → Bool
is_negative t = lt_z t.0 (pos 0)

unfoldable pub is_positive : TimerCount → Bool
is_positive t = lt_z (pos 0) t.0
