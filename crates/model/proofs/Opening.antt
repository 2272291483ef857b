-- The claims of specs/Opening.antt but those of a channel's windows along a list. A window by the eight outcomes of its three tests; the minute along a list, which
-- a call that neither sets it nor resets leaves, and which a tick takes from n ticks to n + 1; a closed channel by what it is driven as. Assumes nothing.
use Rattle.std.specs.Prelude.{Ok, Err}
use mathlib.Core.Path.{◌≡◌, refl, sym, ◌∙◌, ap, subst}
use mathlib.Core.Bool.{Bool, true, false, cond, not, ◌&&◌, ◌||◌, false≢true}
use mathlib.Core.List.{List, [], ◌∷◌}
use Prim.Native.Nat.{ℕ, suc, ◌+◌, ◌-◌, ◌*◌, ◌/◌, ◌%◌, ◌≤◌, ◌<◌}
use native.Mathlib.Omega.{arith}
use lib.Dec.{eqb, leb, ltb}
use lib.ListN.{take}
use borrow.Author.Tests.{ltb-true, ltb-false, leb-true, leb-false, lt-ltb, le-ltb, le-leb, lt-leb}
use Rattle.model.specs.declared.Clock.{Clock}
use Rattle.model.specs.declared.Timetable.{Timetable}
use Rattle.model.specs.declared.Channel.{Channel}
use Rattle.model.specs.declared.Shared.{Shared}
use Rattle.model.specs.declared.Module.{Module}
use Rattle.model.specs.Questions.{Reply}
use Rattle.model.specs.declared.ServiceRegister.{ServiceRegister}
use Rattle.model.specs.declared.ServiceRegister.TheVariants.{Highest, Reset, FreeRunTimer, WDTimer, ModuleConfig, WDPreset, WriteEnable, CommonError}
use Rattle.model.specs.State.{in_flag_of, out_flag_of, channel_at, write_enable_of, wd_timer_of, with_clock, with_shared}
use Rattle.model.specs.Hours.{time_of, within, any_opens, has_windows, minute_set, closed, clock_ticked, unset_clock, window_of, window}
use Rattle.model.specs.Registers.{place, service_row}
use Rattle.model.specs.Settings.{functions}
use Rattle.model.specs.Channel as Rules
use Rattle.model.specs.Tick as Tick
use Rattle.model.specs.Reads as Reads
use Rattle.model.specs.Restored as Restored
use Rattle.model.specs.Writes as Writes
use Rattle.model.specs.Questions as Questions
use Rattle.model.specs.Questions.{accepted}
use Rattle.model.specs.Calls.{Request, read, write, sample, look_up, minute, windows, tick, Sort, a_tick, a_read, a_write, a_local_call, sort_of}
use Rattle.model.specs.Calls.{step, run, cleared, watchdog_preset, read_leaves, write_leaves}
use Rattle.model.specs.Calls.{sample_leaves, minute_leaves, power_up, powered_up_as}
use Rattle.model.specs.TwoLists.{stranger, struck, marks}
use Rattle.model.specs.Runs.{ticks_by}
use Rattle.model.specs.Opening.{minutes_from, ticks_in, resets_by, sets_minute, has_or_resets, sets_any, Opening, OpenOrClosed, HoursOutOfRange, HoursInLists}
use Rattle.model.proofs.Laws.Tests.{either, by-test, neither}
use Rattle.model.proofs.Laws.Lists.{at-mapped, at_same}
use Rattle.model.proofs.Laws.Places.{place-cases}
use Rattle.model.proofs.Facts.Steps.{Off, off-driven}

-- ---- windows
time-low : (n : ℕ) → time_of n ≤ 10079
time-low n = by-test (λ (t : ℕ). t ≤ 10079) (leb n 10079) (λ e. leb-true n 10079 e) (λ e. omega arith)

within-is : (s e now : ℕ) → s ≤ 10079 → e ≤ 10079 → now ≤ 10079 → within s e now ≡ ltb (minutes_from s now) (minutes_from s e)
unfolding within
within-is s e now hs he hn = go (ltb e s) (leb s now) (ltb now e) refl refl refl
  where
    x : ℕ
    x = minutes_from s now

    y : ℕ
    y = minutes_from s e

    go : (a b d : Bool) → ltb e s ≡ a → leb s now ≡ b → ltb now e ≡ d → cond a (b || d) (b && d) ≡ ltb x y
    go true true true p q r = sym (lt-ltb x y (omega (arith, ltb-true e s p, leb-true s now q, ltb-true now e r)))
    go true true false p q r = sym (lt-ltb x y (omega (arith, ltb-true e s p, leb-true s now q, ltb-false now e r)))
    go true false true p q r = sym (lt-ltb x y (omega (arith, ltb-true e s p, leb-false s now q, ltb-true now e r)))
    go true false false p q r = sym (le-ltb x y (omega (arith, ltb-true e s p, leb-false s now q, ltb-false now e r)))
    go false true true p q r = sym (lt-ltb x y (omega (arith, ltb-false e s p, leb-true s now q, ltb-true now e r)))
    go false true false p q r = sym (le-ltb x y (omega (arith, ltb-false e s p, leb-true s now q, ltb-false now e r)))
    go false false true p q r = sym (le-ltb x y (omega (arith, ltb-false e s p, leb-false s now q, ltb-true now e r)))
    go false false false p q r = sym (le-ltb x y (omega (arith, ltb-false e s p, leb-false s now q, ltb-false now e r)))

carried : (start end : ℕ) → end ≤ 65535 → window_of (window start end) ≡ record { start = start; end = end }
carried start end h =
    let p : (start * 65536 + end) / 65536 ≡ start = omega (arith, h) in
    let q : (start * 65536 + end) % 65536 ≡ end = omega (arith, h) in
    λ i. record { start = p i; end = q i }

-- ---- the minute: n ticks after it was set to q
abbrev pub after : ℕ → ℕ → Clock
after q n = record { minute = (q + n / 1920) % 10080; ticks = n % 1920 }

clocks : {a a' b b' : ℕ} → a ≡ a' → b ≡ b' → ◌≡◌ {A = Clock} (record { minute = a; ticks = b }) (record { minute = a'; ticks = b' })
clocks p q = λ i. record { minute = p i; ticks = q i }

tick-after : (q n : ℕ) → clock_ticked (after q n) ≡ after q (suc n)
unfolding clock_ticked
tick-after q n =
    let k : ℕ = (q + n / 1920) % 10080 in
    let t : ℕ = n % 1920 in
    rw (le-leb k 10079 (omega arith), le-leb t 1919 (omega arith))
    (by-test (λ (c : Clock). c ≡ after q (suc n)) (ltb t 1919)
    (λ e. clocks (omega (arith, ltb-true t 1919 e)) (omega (arith, ltb-true t 1919 e)))
    (λ e. clocks
    (by-test (λ (j : ℕ). j ≡ (q + suc n / 1920) % 10080) (ltb k 10079) (λ f. omega (arith, ltb-false t 1919 e, ltb-true k 10079 f))
    (λ f. omega (arith, ltb-false t 1919 e, ltb-false k 10079 f)))
    (omega (arith, ltb-false t 1919 e))))

-- ---- P n of the clock after n ticks: a call that neither sets the minute nor resets leaves it, and a tick takes it to the next number
abbrev counting : Sort → ℕ → ℕ
counting a_tick n = suc n
counting (a_read o lent) n = n
counting (a_write k bs) n = n
counting (a_local_call o) n = n

module _ (P : ℕ → Clock → Type 0) (moves : (n : ℕ) (k : Clock) → P n k → P (suc n) (clock_ticked k)) (n : ℕ) where
  abbrev Of : Module → Type 0
  Of m = P n m.shared.clock

  sampled-clock : (r : Reply) (k : ℕ) (ch : Channel) (m : Module) → Of m → Of (sample_leaves r k ch m)
  sampled-clock (Ok i) k ch m h = h
  sampled-clock (Err q) k ch m h = h

  read-clock : (r : Reply) (i : ℕ) (m : Module) → Of m → Of (read_leaves r (place i) m)
  unfolding Reads.after_read
  read-clock (Ok j) i m h = place-cases (λ p. Of (Reads.after_read p m)) i h (λ e r q. h) (λ e r q. h) (λ e r q. h) (λ l₁ l₂ r q. h)
  read-clock (Err q) i m h = h

  shared-clock : (r : ServiceRegister) (bs : List ℕ) (s : Shared) → ((service_row r).number ≡ 3 → P n unset_clock) → P n s.clock
      → P n (Writes.shared_written r bs s).clock
  unfolding Writes.shared_written
  shared-clock Highest bs s u h = h
  shared-clock Reset bs s u h = u refl
  shared-clock FreeRunTimer bs s u h = h
  shared-clock WDTimer bs s u h = h
  shared-clock ModuleConfig bs s u h = h
  shared-clock WDPreset bs s u h = h
  shared-clock WriteEnable bs s u h = h
  shared-clock CommonError bs s u h = h

  written-clock : (r : Reply) (i : ℕ) (bs : List ℕ) (m : Module) → (eqb i 0x3 && accepted r ≡ true → P n unset_clock) → Of m → Of (write_leaves r (place i) bs m)
  unfolding Writes.written
  written-clock (Ok j) i bs m u h =
      place-cases (λ p. Of (Writes.written p bs m)) i h
      (λ e r q. shared-clock r bs m.shared (λ z. let t : i ≡ 3 = omega (arith, e, q, z) in u (rw t)) h)
      (λ e r q. h) (λ e r q. h) (λ l₁ l₂ r q. h)
  written-clock (Err q) i bs m u h = h

  minute-clock : (r : Reply) (i : ℕ) (m : Module) → accepted r ≡ false → Of m → Of (minute_leaves r i m)
  minute-clock (Ok j) i m e h = absurd (false≢true (sym e))
  minute-clock (Err q) i m e h = h

  step-clock : (m : Module) (x : Request) → sets_minute x ≡ false → (resets_by m (sort_of x) ≡ true → P n unset_clock) → Of m
      → P (counting (sort_of x) n) (step m x).box.shared.clock
  unfolding step cleared watchdog_preset Tick.ticked Tick.tick_shared
  step-clock m (read i lent) s u h = read-clock (Questions.read_reply i (place i) lent) i (cleared m) h
  step-clock m (write i bs) s u h = written-clock (Questions.write_reply (write_enable_of m.shared) i (place i) bs) i bs (cleared m) u h
  step-clock m (sample k b x) s u h = sampled-clock (Questions.sample_reply k x) k _ m h
  step-clock m (look_up k x) s u h = h
  step-clock m (minute i) s u h = minute-clock (Questions.minute_reply i) i m s h
  step-clock m (windows k ws) s u h = sampled-clock (Questions.windows_reply k ws) k _ m h
  step-clock m tick s u h = moves n m.shared.clock h

-- ---- along a list
counted : (s : Sort) (n k : ℕ) → counting s n + k ≡ n + (ticks_by true s + k)
counted a_tick n k = omega arith
counted (a_read o lent) n k = omega arith
counted (a_write i bs) n k = omega arith
counted (a_local_call o) n k = omega arith

abbrev pub After : ℕ → ℕ → Clock → Type 0
After q n k = k ≡ after q n

pub moved : (q n : ℕ) (k : Clock) → After q n k → After q (suc n) (clock_ticked k)
moved q n k e = ap clock_ticked e ∙ tick-after q n

run-clock : (q n : ℕ) (m : Module) (xs : List Request) → has_or_resets sets_minute m xs ≡ false → After q n m.shared.clock
    → After q (n + ticks_in xs) (run m xs).shared.clock
unfolding run has_or_resets
run-clock q n m [] s e = e ∙ ap (after q) (omega arith)
run-clock q n m (x ∷ xs) s e =
    let (first, later) = neither (sets_minute x || resets_by m (sort_of x)) (has_or_resets sets_minute (step m x).box xs) s in
    let (calm, stays) = neither (sets_minute x) (resets_by m (sort_of x)) first in
    run-clock q (counting (sort_of x) n) (step m x).box xs later
    (step-clock (After q) (moved q) n m x calm (λ z. absurd (false≢true (sym stays ∙ z))) e)
    ∙ ap (after q) (counted (sort_of x) n (ticks_in xs))

set-clock : (m : Module) (n : ℕ) → n ≤ 10079 → After n 0 (step m (minute n)).box.shared.clock
unfolding step Questions.minute_reply
set-clock m n h = rw (le-leb n 10079 h) (clocks (omega arith) refl)

pub clock : (m : Module) (n : ℕ) (xs : List Request) → n ≤ 10079 → has_or_resets sets_minute (step m (minute n)).box xs ≡ false →
    After n (ticks_in xs) (run (step m (minute n)).box xs).shared.clock
clock m n xs h s = run-clock n 0 (step m (minute n)).box xs s (set-clock m n h) ∙ ap (after n) (omega arith)

-- ---- unset
abbrev Unset : ℕ → Clock → Type 0
Unset n k = k ≡ unset_clock

still-unset : (n : ℕ) (k : Clock) → Unset n k → Unset (suc n) (clock_ticked k)
unfolding clock_ticked
still-unset n k e = ap clock_ticked e

unset-run : (m : Module) (xs : List Request) → sets_any xs ≡ false → Unset 0 m.shared.clock → Unset 0 (run m xs).shared.clock
unfolding run sets_any
unset-run m [] s e = e
unset-run m (x ∷ xs) s e =
    let (first, later) = neither (sets_minute x) (sets_any xs) s in
    unset-run (step m x).box xs later (step-clock Unset still-unset 0 m x first (λ z. refl) e)

unset-start : (img : List ℕ) → Unset 0 (power_up img).shared.clock
unfolding power_up Restored.powered_up
unset-start img = go (Questions.power_up_reply img)
  where
    go : (r : Reply) → Unset 0 (powered_up_as r img).shared.clock
    go (Ok n) = refl
    go (Err r) = refl

reset : (m : Module) → (step m (write 0x3 (0xFF ∷ []))).box.shared.clock ≡ unset_clock
unfolding step cleared watchdog_preset place Questions.write_reply Writes.written Writes.shared_written
reset m = refl

pub opening : Opening
opening =
    record {
      opened = λ now w h. within-is (time_of w.start) (time_of w.end) now (time-low w.start) (time-low w.end) h;
      carried = carried;
      clock = clock;
      unset = λ img xs s. unset-run (power_up img) xs s (unset-start img);
      reset = reset;
    }

-- ---- open and closed
while_unset : (k : Clock) (t : Timetable) → minute_set k ≡ false → closed k t ≡ false
unfolding closed
while_unset k t e = ap (λ (b : Bool). b && (has_windows t && not (any_opens k.minute (take t.count t.windows)))) e

-- the watchdog leaves the windows
shut-timetable : (b : Bool) (ch : Channel) → (Tick.shut_down b ch).timetable ≡ ch.timetable
unfolding Tick.shut_down
shut-timetable b ch = either (λ (x : Channel). x.timetable ≡ ch.timetable) b refl refl

shut-twice : (b : Bool) (ch : Channel) → Tick.shut_down true (Tick.shut_down b ch) ≡ Tick.shut_down true ch
unfolding Tick.shut_down
shut-twice true ch = refl
shut-twice false ch = refl

-- what a channel is kept as, where it is known whether it is closed
kept-as : (s : Shared) (ranOut b : Bool) (ch : Channel) → closed s.clock ch.timetable ≡ b
    → Tick.off_while_closed s (Tick.shut_down ranOut ch) ≡ Tick.shut_down b (Tick.shut_down ranOut ch)
unfolding Tick.off_while_closed
kept-as s ranOut b ch e = ap (λ (x : Bool). Tick.shut_down x (Tick.shut_down ranOut ch)) (ap (closed s.clock) (shut-timetable ranOut ch) ∙ e)

-- the rest of steps 1 to 4, which does not look at the clock
abbrev onward : Shared → Channel → Channel → Channel
onward s ch x = let run = Tick.timers_run x in Tick.guarded s (Rules.changed (out_flag_of ch) (Tick.special (functions run) run))

open_driven : (s : Shared) (ranOut : Bool) (ch : Channel) → closed s.clock ch.timetable ≡ false →
    Tick.driven s ranOut ch ≡ Tick.driven (with_clock unset_clock s) ranOut ch
unfolding Tick.driven Tick.guarded Tick.overloaded
open_driven s ranOut ch e =
    ap (onward s ch) (kept-as s ranOut false ch e ∙ sym (kept-as (with_clock unset_clock s) ranOut false ch (while_unset unset_clock ch.timetable refl)))

closed_driven : (s : Shared) (ranOut : Bool) (ch : Channel) → closed s.clock ch.timetable ≡ true →
    Tick.driven s ranOut ch ≡ Tick.driven (with_clock unset_clock s) true ch
unfolding Tick.driven Tick.guarded Tick.overloaded Tick.shut_down
closed_driven s ranOut ch e =
    ap (onward s ch) (kept-as s ranOut true ch e ∙ shut-twice ranOut ch
    ∙ sym (kept-as (with_clock unset_clock s) true false ch (while_unset unset_clock ch.timetable refl)))

-- steps 5 to 7 leave OutFlag and Control
off-reviewed : (s : Shared) (due : Bool) (levels : List Bool) (ch : Channel) → Off ch → Off (Tick.reviewed s due levels ch)
unfolding Tick.reviewed Tick.saved Tick.judged Tick.operated Tick.looked
off-reviewed s due levels ch h =
    let l : Off (Tick.looked s levels ch) = either Off (Tick.look_due s) h h in
    let o : Off (Tick.operated (Tick.looked s levels ch)) = either Off (in_flag_of (Tick.looked s levels ch)) l l in
    either Off due o o

pub off-ticked : (m : Module) (c : ℕ) → closed (Tick.ticked m).shared.clock (channel_at m c).timetable ≡ true → Off (channel_at (Tick.ticked m) c)
unfolding Tick.ticked
off-ticked m c e =
    let s = Tick.tick_shared m.shared in
    let out = Tick.runs_out m.shared (wd_timer_of m.service) in
    let due = Tick.save_due m.shared in
    at-mapped Off (Tick.channel_ticked s out due (Tick.levels m)) m.channels (c - 1) (refl, refl)
    (off-reviewed s due (Tick.levels m) (Tick.driven s out (channel_at m c))
    (subst Off (sym (closed_driven s out (channel_at m c) e)) (off-driven (with_clock unset_clock s) (channel_at m c))))

-- steps 5 to 7 do not look at the clock
open_ticked : (m : Module) (c : ℕ) → closed (Tick.ticked m).shared.clock (channel_at m c).timetable ≡ false →
    channel_at (Tick.ticked m) c ≡ channel_at (Tick.ticked (with_shared (with_clock unset_clock m.shared) m)) c
unfolding Tick.ticked Tick.tick_shared Tick.reviewed Tick.looked Tick.look_due Tick.judged Tick.found Tick.runs_out Tick.save_due clock_ticked
open_ticked m c e =
    let s = Tick.tick_shared m.shared in
    let s' = with_clock unset_clock s in
    let out = Tick.runs_out m.shared (wd_timer_of m.service) in
    let due = Tick.save_due m.shared in
    at_same (Tick.channel_ticked s out due (Tick.levels m)) (Tick.channel_ticked s' out due (Tick.levels m)) m.channels (c - 1)
    (ap (Tick.reviewed s due (Tick.levels m)) (open_driven s out (channel_at m c) e))

pub open-or-closed : OpenOrClosed
open-or-closed =
    record { open_driven = open_driven; closed_driven = closed_driven; open_ticked = open_ticked; while_unset = while_unset; off = off-ticked }

-- ---- numbers out of range
no_minute : (n t : ℕ) → 10080 ≤ n → clock_ticked (record { minute = n; ticks = t }) ≡ record { minute = n; ticks = t }
unfolding clock_ticked
no_minute n t h = rw (lt-leb n 10079 h)

late-ticks : (n t : ℕ) → n ≤ 10079 → 1920 ≤ t → clock_ticked (record { minute = n; ticks = t }) ≡ record { minute = n; ticks = 1 }
unfolding clock_ticked
late-ticks n t h l = rw (le-leb n 10079 h, lt-leb t 1919 l)

and_none : (a b c d : Bool) → c ≡ false → a && ((b && c) && d) ≡ false
and_none true true c d e = rw e
and_none true false c d e = refl
and_none false b c d e = refl

too_many : (k : Clock) (t : Timetable) → 8 < t.count → closed k t ≡ false
unfolding closed
too_many k t h = and_none (minute_set k) (leb 1 t.count) (leb t.count 8) _ (lt-leb t.count 8 h)

late : (n : ℕ) → 10080 ≤ n → time_of n ≡ 0
late n h = rw (lt-leb n 10079 h)

pub hours-out-of-range : HoursOutOfRange
hours-out-of-range =
    record {
      no_minute = no_minute;
      ticks = late-ticks;
      count = too_many;
      start = λ now s e h. ap (λ (x : ℕ). within x (time_of e) now) (late s h);
      end = λ now s e h. ap (λ (x : ℕ). within (time_of s) x now) (late e h);
    }

-- ---- the lists of demand 3
struck_windows : (c : ℕ) (ns : List ℕ) (k : ℕ) (ws : List ℕ) (xs : List Request) → stranger c ns k ≡ true → struck c ns (windows k ws ∷ xs) ≡ struck c ns xs
unfolding struck
struck_windows c ns k ws xs e = rw e

standing_windows : (c : ℕ) (ns : List ℕ) (k : ℕ) (ws : List ℕ) (xs : List Request) → stranger c ns k ≡ false →
    struck c ns (windows k ws ∷ xs) ≡ windows k ws ∷ struck c ns xs
unfolding struck
standing_windows c ns k ws xs e = rw e

pub hours-in-lists : HoursInLists
unfolding struck marks
hours-in-lists =
    record { struck_windows = struck_windows; standing_windows = standing_windows; standing_minute = λ c ns n xs. refl; unmarked = λ w n k ws xs. refl }
