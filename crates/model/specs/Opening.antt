-- Document 02, Change 6, in words: a window is open exactly where the minutes from its start to now are fewer than those from its start to its end, round the week;
-- the minute after a list of calls is by the list's ticks alone, each 1920 from its setting one minute; the windows of a channel are what the last accepted call
-- gave; a closed channel is driven as one whose watchdog ran out and ends the tick with OutFlag and Control FALSE, whatever its function, and an open one is driven
-- as while the minute is unset; so the calls alone tell when a channel is off (`Closes`). A stranger's windows are struck, and the minute stands in every list.
-- The proofs are in proofs/Opening.antt and proofs/Given.antt.
use Rattle.std.specs.Prelude.{◌≡◌, Bool, true, false, not, ◌&&◌, ◌||◌, List, [], ◌∷◌, map, ℕ, suc, ◌+◌, ◌-◌, ◌/◌, ◌%◌, ◌≤◌, ◌<◌, eqb, leb, ltb, length}
use Rattle.model.specs.declared.Window.{Window}
use Rattle.model.specs.declared.Clock.{Clock}
use Rattle.model.specs.declared.Timetable.{Timetable}
use Rattle.model.specs.declared.Channel.{Channel}
use Rattle.model.specs.declared.Shared.{Shared}
use Rattle.model.specs.declared.Module.{Module}
use Rattle.model.specs.State.{out_flag_of, control, channel_at, write_enable_of, with_clock, with_shared}
use Rattle.model.specs.Hours.{unset_clock, minute_set, clock_ticked, no_windows, window, window_of, timetable_of, time_of, opens, any_opens, closed}
use Rattle.model.specs.Registers.{place}
use Rattle.model.specs.Tick.{driven, ticked}
use Rattle.model.specs.Questions.{accepted, write_reply, minute_reply, windows_reply}
use Rattle.model.specs.Calls.{Request, read, write, sample, look_up, minute, windows, tick, Sort, a_tick, a_read, a_write, a_local_call, sort_of, step, run, power_up}
use Rattle.model.specs.TwoLists.{stranger, struck, marks}
use Rattle.model.specs.Runs.{ticks_by}

-- ---- the words of the claims
-- the minutes from one minute of the week until another comes
abbrev pub minutes_from : ℕ → ℕ → ℕ
minutes_from start now = (now + 10080 - start) % 10080

-- the ticks of a list
abbrev pub ticks_in : List Request → ℕ
ticks_in [] = 0
ticks_in (x ∷ xs) = ticks_by true (sort_of x) + ticks_in xs

-- a reset: a write of SWNo 3 that is accepted
abbrev pub resets_by : Module → Sort → Bool
resets_by m a_tick = false
resets_by m (a_read o lent) = false
resets_by m (a_write n bs) = eqb n 0x3 && accepted (write_reply (write_enable_of m.shared) n (place n) bs)
resets_by m (a_local_call o) = false

-- an accepted setting of the minute
abbrev pub sets_minute : Request → Bool
sets_minute (read n lent) = false
sets_minute (write n bs) = false
sets_minute (sample k b x) = false
sets_minute (look_up k x) = false
sets_minute (minute n) = accepted (minute_reply n)
sets_minute (windows k ws) = false
sets_minute tick = false

-- accepted windows for channel c
abbrev pub gives_windows : ℕ → Request → Bool
gives_windows c (read n lent) = false
gives_windows c (write n bs) = false
gives_windows c (sample k b x) = false
gives_windows c (look_up k x) = false
gives_windows c (minute n) = false
gives_windows c (windows k ws) = eqb k c && accepted (windows_reply k ws)
gives_windows c tick = false

-- whether a list, run from m, has a call of which p holds, or a reset
unfoldable pub has_or_resets : (Request → Bool) → Module → List Request → Bool
has_or_resets p m [] = false
has_or_resets p m (x ∷ xs) = (p x || resets_by m (sort_of x)) || has_or_resets p (step m x).box xs

-- whether a list has an accepted setting of the minute
unfoldable pub sets_any : List Request → Bool
sets_any [] = false
sets_any (x ∷ xs) = sets_minute x || sets_any xs

-- ---- 2 and 3: windows and the minute
pub record Opening : Type 0 where
  pub opened : (now : ℕ) (w : Window) → now ≤ 10079 →
      opens now w ≡ ltb (minutes_from (time_of w.start) now) (minutes_from (time_of w.start) (time_of w.end))
  -- what stands for a window in a call has its start and its end
  pub carried : (start end : ℕ) → end ≤ 65535 → window_of (window start end) ≡ record { start = start; end = end }
  -- after a setting, over any list without another or a reset
  pub clock : (m : Module) (n : ℕ) (xs : List Request) → n ≤ 10079 → has_or_resets sets_minute (step m (minute n)).box xs ≡ false →
      (run (step m (minute n)).box xs).shared.clock ≡ record { minute = (n + ticks_in xs / 1920) % 10080; ticks = ticks_in xs % 1920 }
  -- unset after power-up, over any list without a setting; and after a reset
  pub unset : (img : List ℕ) (xs : List Request) → sets_any xs ≡ false → (run (power_up img) xs).shared.clock ≡ unset_clock
  pub reset : (m : Module) → (step m (write 0x3 (0xFF ∷ []))).box.shared.clock ≡ unset_clock

-- ---- 4: the tick
pub record OpenOrClosed : Type 0 where
  pub open_driven : (s : Shared) (ranOut : Bool) (ch : Channel) → closed s.clock ch.timetable ≡ false →
      driven s ranOut ch ≡ driven (with_clock unset_clock s) ranOut ch
  pub closed_driven : (s : Shared) (ranOut : Bool) (ch : Channel) → closed s.clock ch.timetable ≡ true →
      driven s ranOut ch ≡ driven (with_clock unset_clock s) true ch
  -- and so it is after the whole tick
  pub open_ticked : (m : Module) (c : ℕ) → closed (ticked m).shared.clock (channel_at m c).timetable ≡ false →
      channel_at (ticked m) c ≡ channel_at (ticked (with_shared (with_clock unset_clock m.shared) m)) c
  pub while_unset : (k : Clock) (t : Timetable) → minute_set k ≡ false → closed k t ≡ false
  -- by the minute as the tick has moved it
  pub off : (m : Module) (c : ℕ) → closed (ticked m).shared.clock (channel_at m c).timetable ≡ true →
      (out_flag_of (channel_at (ticked m) c) ≡ false) × (control (channel_at (ticked m) c) ≡ false)

-- ---- Change 1, 9: a number out of its range acts as after a refused power-up, and stands until a call or a tick puts it anew
pub record HoursOutOfRange : Type 0 where
  -- a minute, as unset
  pub no_minute : (n t : ℕ) → 10080 ≤ n → clock_ticked (record { minute = n; ticks = t }) ≡ record { minute = n; ticks = t }
  -- the ticks since the minute moved, as 0
  pub ticks : (n t : ℕ) → n ≤ 10079 → 1920 ≤ t → clock_ticked (record { minute = n; ticks = t }) ≡ record { minute = n; ticks = 1 }
  -- more than eight windows, as none
  pub count : (k : Clock) (t : Timetable) → 8 < t.count → closed k t ≡ false
  -- a start and an end, as 0
  pub start : (now start end : ℕ) → 10080 ≤ start → opens now (record { start = start; end = end }) ≡ opens now (record { start = 0; end = end })
  pub end : (now start end : ℕ) → 10080 ≤ end → opens now (record { start = start; end = end }) ≡ opens now (record { start = start; end = 0 })

-- ---- 3: the windows of a channel, along a list
pub record Given : Type 0 where
  -- an accepted call gives a channel its windows, whole
  pub given : (m : Module) (c : ℕ) (ws : List ℕ) → 1 ≤ c → c ≤ length m.channels → (step m (windows c ws)).answer.number ≡ 0 →
      (channel_at (step m (windows c ws)).box c).timetable ≡ timetable_of ws
  -- they stay, over any list without other windows for it or a reset, which empties them; and power-up gives none
  pub stay : (m : Module) (c : ℕ) (xs : List Request) → 1 ≤ c → has_or_resets (gives_windows c) m xs ≡ false →
      (channel_at (run m xs) c).timetable ≡ (channel_at m c).timetable
  pub emptied : (m : Module) (c : ℕ) → 1 ≤ c → c ≤ length m.channels → (channel_at (step m (write 0x3 (0xFF ∷ []))).box c).timetable ≡ no_windows
  pub none : (img : List ℕ) (c : ℕ) → 1 ≤ c → c ≤ 16 → (channel_at (power_up img) c).timetable ≡ no_windows
  -- closed by what was given
  pub closes : (k : Clock) (ws : List ℕ) → length ws ≤ 8 →
      closed k (timetable_of ws) ≡ minute_set k && (leb 1 (length ws) && not (any_opens k.minute (map window_of ws)))

-- ---- all in one, by the calls alone: the minute set to n, windows given to c, then a list without a new setting, other windows for c or a reset, then a tick.
-- Where no window is open at the minute that follows from the ticks, the channel is off after that tick
abbrev pub timetabled : Module → ℕ → ℕ → List ℕ → Module
timetabled m n c ws = (step (step m (minute n)).box (windows c ws)).box

abbrev pub Closes : Type 0
Closes =
    (m : Module) (n c : ℕ) (ws : List ℕ) (xs : List Request) → 1 ≤ c → c ≤ length m.channels → n ≤ 10079 → 1 ≤ length ws →
    (step m (windows c ws)).answer.number ≡ 0 →
    has_or_resets sets_minute (timetabled m n c ws) xs ≡ false → has_or_resets (gives_windows c) (timetabled m n c ws) xs ≡ false →
    any_opens ((n + suc (ticks_in xs) / 1920) % 10080) (map window_of ws) ≡ false →
    let z = (step (run (timetabled m n c ws) xs) tick).box in (out_flag_of (channel_at z c) ≡ false) × (control (channel_at z c) ≡ false)

-- ---- 5: the lists of demand 3
pub record HoursInLists : Type 0 where
  -- windows for a stranger are struck, those for any other number stay
  pub struck_windows : (c : ℕ) (ns : List ℕ) (k : ℕ) (ws : List ℕ) (xs : List Request) → stranger c ns k ≡ true → struck c ns (windows k ws ∷ xs) ≡ struck c ns xs
  pub standing_windows : (c : ℕ) (ns : List ℕ) (k : ℕ) (ws : List ℕ) (xs : List Request) → stranger c ns k ≡ false →
      struck c ns (windows k ws ∷ xs) ≡ windows k ws ∷ struck c ns xs
  -- the minute stands in every list
  pub standing_minute : (c : ℕ) (ns : List ℕ) (n : ℕ) (xs : List Request) → struck c ns (minute n ∷ xs) ≡ minute n ∷ struck c ns xs
  -- neither is a wire call
  pub unmarked : (w : Bool) (n k : ℕ) (ws : List ℕ) (xs : List Request) → marks w (minute n ∷ windows k ws ∷ xs) ≡ marks w xs
