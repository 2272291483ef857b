-- Document 02, Change 6, 2 to 4: the minute of the week, a channel's windows, and when a channel is closed. Definitions only.
use Rattle.std.specs.Prelude.{Bool, false, not, cond, ◌&&◌, ◌||◌, List, [], ◌∷◌, ◌++◌, map, ℕ, ◌+◌, ◌*◌, ◌/◌, ◌%◌, leb, ltb, length, take, replicate}
use Rattle.model.specs.declared.Window.{Window}
use Rattle.model.specs.declared.Timetable.{Timetable}
use Rattle.model.specs.declared.Clock.{Clock}

-- ---- 2: the minute of the week, 0 to 10079
abbrev pub is_minute : ℕ → Bool
is_minute n = leb n 10079

-- unset after power-up or reset
abbrev pub unset_clock : Clock
unset_clock = record { minute = 10080; ticks = 0 }

-- a minute out of its range acts as unset
abbrev pub minute_set : Clock → Bool
minute_set k = is_minute k.minute

-- set to n: the ticks are counted from then
abbrev pub clock_at : ℕ → Clock
clock_at n = record { minute = n; ticks = 0 }

-- the ticks since it was set or last moved, 0 to 1919; a count out of its range acts as 0
abbrev pub ticks_of : Clock → ℕ
ticks_of k = cond (leb k.ticks 1919) k.ticks 0

-- 10079 goes to 0
abbrev pub next_minute : ℕ → ℕ
next_minute n = cond (ltb n 10079) (n + 1) 0

-- as a tick begins: each 1920th moves the minute, and while it is unset nothing moves
unfoldable pub clock_ticked : Clock → Clock
clock_ticked k =
    cond (minute_set k) (cond (ltb (ticks_of k) 1919) (record { minute = k.minute; ticks = ticks_of k + 1 }) (clock_at (next_minute k.minute))) k

-- ---- 3: windows, up to eight, emptied by power-up and reset
abbrev pub no_windows : Timetable
no_windows = record { count = 0; windows = replicate 8 (record { start = 0; end = 0 }) }

-- each is given as one number, its start times 65536 plus its end
abbrev pub window : ℕ → ℕ → ℕ
window start end = start * 65536 + end

abbrev pub window_of : ℕ → Window
window_of n = record { start = n / 65536; end = n % 65536 }

-- they are given whole: those that stood before are gone. A call with more than eight is refused
abbrev pub timetable_of : List ℕ → Timetable
timetable_of ns = record { count = length (take 8 ns); windows = map window_of (take 8 (ns ++ replicate 8 0)) }

-- the start is in the window and the end is not; one whose end is before its start runs over the week's end. With equal ends no minute is in it
unfoldable pub within : ℕ → ℕ → ℕ → Bool
within start end now = cond (ltb end start) (leb start now || ltb now end) (leb start now && ltb now end)

-- a start or an end out of its range acts as 0
abbrev pub time_of : ℕ → ℕ
time_of n = cond (is_minute n) n 0

abbrev pub opens : ℕ → Window → Bool
opens now w = within (time_of w.start) (time_of w.end) now

abbrev pub any_opens : ℕ → List Window → Bool
any_opens now [] = false
any_opens now (w ∷ ws) = opens now w || any_opens now ws

-- more than eight act as none
abbrev pub has_windows : Timetable → Bool
has_windows t = leb 1 t.count && leb t.count 8

-- ---- 4: while the minute is set, a channel with windows is closed outside all of them
unfoldable pub closed : Clock → Timetable → Bool
closed k t = minute_set k && (has_windows t && not (any_opens k.minute (take t.count t.windows)))
