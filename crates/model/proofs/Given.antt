-- The claims of specs/Opening.antt on the windows of a channel along a list: they are a part of what the laws of Inputs say of each rule, and Stays of each call;
-- and with the minute (Opening) they tell when the channel is off. Assumes nothing.
use Rattle.std.specs.Prelude.{Ok, Err}
use mathlib.Core.Path.{◌≡◌, refl, sym, ◌∙◌, ap, subst}
use mathlib.Core.Bool.{Bool, true, false, not, ◌&&◌, ◌||◌, false≢true, and-true}
use mathlib.Core.List.{List, [], ◌∷◌, ◌++◌, map}
use Prim.Native.Nat.{ℕ, zero, suc, ◌+◌, ◌-◌, ◌/◌, ◌%◌, ◌≤◌}
use native.Mathlib.Omega.{arith}
use lib.Dec.{eqb, leb, leb→le}
use lib.ListN.{length, take, replicate}
use lib.Seq.{get_or-set_same, take_all}
use borrow.Author.Tests.{eqb-false, le-leb}
use Rattle.model.specs.declared.Config.{Config}
use Rattle.model.specs.declared.Window.{Window}
use Rattle.model.specs.declared.Timetable.{Timetable}
use Rattle.model.specs.declared.Clock.{Clock}
use Rattle.model.specs.declared.Channel.{Channel}
use Rattle.model.specs.declared.Module.{Module}
use Rattle.model.specs.Questions.{Reply}
use Rattle.model.specs.declared.ServiceRegister.{ServiceRegister}
use Rattle.model.specs.declared.DigitalRegister.{DigitalRegister}
use Rattle.model.specs.declared.CommonRegister.{CommonRegister}
use Rattle.model.specs.declared.ServiceRegister.TheVariants.{Highest, Reset, FreeRunTimer, WDTimer, ModuleConfig, WDPreset, WriteEnable, CommonError}
use Rattle.model.specs.declared.DigitalRegister.TheVariants.{FlagReg, OutTimer, Counter, OutCurrent, OperatingTime, UserBytes, FBTimer, FBPreset}
use Rattle.model.specs.declared.DigitalRegister.TheVariants.{OutPreset, ChConfig, MinCurrent, MaxCurrent, UserReals, Maintenance, ChError}
use Rattle.model.specs.declared.CommonRegister.TheVariants.{OutFlags, InFlags, IOChError, ChError as CommonChError}
use Rattle.model.specs.State.{nothing, channel_at, with_timetable, write_enable_of}
use Rattle.model.specs.Hours.{no_windows, window_of, timetable_of, any_opens, minute_set, closed}
use Rattle.model.specs.Registers.{place, service_row}
use Rattle.model.specs.Settings as Settings
use Rattle.model.specs.Channel as Rules
use Rattle.model.specs.Tick as Tick
use Rattle.model.specs.Writes as Writes
use Rattle.model.specs.Image as Image
use Rattle.model.specs.Restored as Restored
use Rattle.model.specs.Questions as Questions
use Rattle.model.specs.Questions.{accepted, number_of}
use Rattle.model.specs.Calls.{Request, read, write, sample, look_up, minute, windows, tick, sort_of, step, run, cleared, watchdog_preset, write_leaves}
use Rattle.model.specs.Calls.{sample_leaves, power_up, powered_up_as}
use Rattle.model.specs.Opening.{ticks_in, resets_by, gives_windows, has_or_resets, Given, Closes}
use Rattle.model.proofs.Laws.Tests.{either, neither, range}
use Rattle.model.proofs.Laws.Lists.{at_map}
use Rattle.model.proofs.Laws.Replies.{not-zero, asked-yes}
use Rattle.model.proofs.Laws.Inputs.{Inputs, inputs, given, taken, kept_if, time-kept-if, operated-in, tick-in, in-sample}
use Rattle.model.proofs.Laws.InputRegisters.{write-in, every_in, in-every, common-in}
use Rattle.model.proofs.Laws.Stays.{step-size, read_stays, written-stays, sample-stays, minute-stays, ticked-stays}
use Rattle.model.proofs.Opening.{After, after, moved, clock, off-ticked}

-- ---- what each register does to the windows
abbrev hours : Inputs → Timetable
hours n = n.timetable

taken-leaves : (who : Config → Bool) (b : Bool) (n : Inputs) → hours (taken who b n) ≡ hours n
unfolding taken given
taken-leaves who b n = either (λ (x : Inputs). hours x ≡ hours n) (who n.config) refl refl

write-leaves : (r : DigitalRegister) (en : Bool) (bs : List ℕ) (n : Inputs) → hours (write-in r en bs n) ≡ hours n
unfolding write-in kept_if time-kept-if
write-leaves FlagReg en bs n = taken-leaves _ _ n
write-leaves OutTimer en bs n = refl
write-leaves Counter en bs n = refl
write-leaves OutCurrent en bs n = refl
write-leaves OperatingTime en bs n = refl
write-leaves UserBytes en bs n = refl
write-leaves FBTimer en bs n = refl
write-leaves FBPreset en bs n = refl
write-leaves OutPreset en bs n = refl
write-leaves ChConfig en bs n = refl
write-leaves MinCurrent en bs n = refl
write-leaves MaxCurrent en bs n = refl
write-leaves UserReals en bs n = refl
write-leaves Maintenance en bs n = refl
write-leaves ChError en bs n = refl

every-leaves : (r : ServiceRegister) (n : Inputs) → ((service_row r).number ≡ 3 → ⊥) → hours (every_in r n) ≡ hours n
unfolding every_in
every-leaves Highest n d = refl
every-leaves Reset n d = absurd (d refl)
every-leaves FreeRunTimer n d = refl
every-leaves WDTimer n d = refl
every-leaves ModuleConfig n d = refl
every-leaves WDPreset n d = refl
every-leaves WriteEnable n d = refl
every-leaves CommonError n d = refl

common-leaves : (r : CommonRegister) (bs : List ℕ) (i : ℕ) (n : Inputs) → hours (common-in r bs i n) ≡ hours n
unfolding common-in
common-leaves OutFlags bs i n = refl
common-leaves InFlags bs i n = taken-leaves _ _ n
common-leaves IOChError bs i n = refl
common-leaves CommonChError bs i n = refl

tick-leaves : (due : Bool) (n : Inputs) → hours (tick-in due n) ≡ hours n
unfolding tick-in time-kept-if kept_if operated-in
tick-leaves due n = refl

-- ---- each call but windows for c and a reset
module _ (c : ℕ) (1≤c : 1 ≤ c) where
  abbrev At : Module → Timetable
  At m = (channel_at m c).timetable

  write-stays : (m : Module) (r : Reply) (n : ℕ) (bs : List ℕ) → eqb n 0x3 && accepted r ≡ false → At (write_leaves r (place n) bs m) ≡ At m
  write-stays m (Ok q) n bs e =
      written-stays hours c m 1≤c n bs
      (λ r i x. every-leaves r x (λ z. eqb-false _ _ (sym (and-true (eqb n 0x3)) ∙ e) (i ∙ z)))
      (λ r i x. write-leaves r (write_enable_of m.shared) bs x)
      (λ r i x. common-leaves r bs i x)
  write-stays m (Err q) n bs e = refl

  -- windows for another channel, or refused
  other-stays : (m : Module) (k : ℕ) (ws : List ℕ) (r : Reply) → (accepted r ≡ true → 1 ≤ k) → eqb k c && accepted r ≡ false
      → At (sample_leaves r k (with_timetable (timetable_of ws) (channel_at m k)) m) ≡ At m
  other-stays m k ws (Ok q) low e =
      sample-stays hours c m (Ok q) k (with_timetable (timetable_of ws))
      (λ i ch. absurd (eqb-false k c (sym (and-true (eqb k c)) ∙ e) (omega (arith, low refl, 1≤c, i))))
  other-stays m k ws (Err q) low e = refl

  -- an accepted call is for a channel from 1
  channel-low : (k : ℕ) (ws : List ℕ) → accepted (Questions.windows_reply k ws) ≡ true → 1 ≤ k
  unfolding Questions.windows_reply
  channel-low k ws a = go (Settings.is_digital k) refl a
    where
      rest : Reply
      rest = Questions.asked (Questions.windows_questions k ws) (Ok 0)

      go : (b : Bool) → Settings.is_digital k ≡ b → accepted rest ≡ true → 1 ≤ k
      go true e p = (range k e).0
      go false e p = absurd (false≢true (rw e at p))

  step_stays : (m : Module) (x : Request) → gives_windows c x ≡ false → resets_by m (sort_of x) ≡ false → At (step m x).box ≡ At m
  unfolding step cleared watchdog_preset
  step_stays m (read n lent) g r = read_stays hours c (cleared m) (Questions.read_reply n (place n) lent) n
  step_stays m (write n bs) g r = write-stays (cleared m) (Questions.write_reply (write_enable_of m.shared) n (place n) bs) n bs r
  step_stays m (sample k b x) g r =
      sample-stays hours c m (Questions.sample_reply k x) k (Rules.take_sample m.shared b x)
      (λ i ch. ap hours (in-sample m.shared b x ch) ∙ taken-leaves _ _ (inputs ch))
  step_stays m (look_up k x) g r = refl
  step_stays m (minute n) g r = minute-stays hours c m (Questions.minute_reply n) n
  step_stays m (windows k ws) g r = other-stays m k ws (Questions.windows_reply k ws) (channel-low k ws) g
  step_stays m tick g r = ticked-stays hours c m tick-leaves

  run-stays : (m : Module) (xs : List Request) → has_or_resets (gives_windows c) m xs ≡ false → At (run m xs) ≡ At m
  unfolding run has_or_resets
  run-stays m [] e = refl
  run-stays m (x ∷ xs) e =
      let (first, later) = neither (gives_windows c x || resets_by m (sort_of x)) (has_or_resets (gives_windows c) (step m x).box xs) e in
      let (g, r) = neither (gives_windows c x) (resets_by m (sort_of x)) first in
      run-stays (step m x).box xs later ∙ step_stays m x g r

-- ---- given, emptied, and none at power-up
given-windows : (m : Module) (c : ℕ) (ws : List ℕ) → 1 ≤ c → c ≤ length m.channels → (step m (windows c ws)).answer.number ≡ 0 →
    (channel_at (step m (windows c ws)).box c).timetable ≡ timetable_of ws
unfolding step
given-windows m c ws 1≤c l a = go (Questions.windows_reply c ws) a
  where
    ch : Channel
    ch = with_timetable (timetable_of ws) (channel_at m c)

    go : (r : Reply) → number_of r ≡ 0 → (channel_at (sample_leaves r c ch m) c).timetable ≡ timetable_of ws
    go (Ok q) e = ap (λ (x : Channel). x.timetable) (get_or-set_same m.channels (c - 1) ch nothing (omega (arith, 1≤c, l)))
    go (Err q) e = not-zero q e

emptied : (m : Module) (c : ℕ) → 1 ≤ c → c ≤ length m.channels → (channel_at (step m (write 0x3 (0xFF ∷ []))).box c).timetable ≡ no_windows
unfolding step cleared watchdog_preset place Questions.write_reply Writes.written every_in
emptied m c 1≤c l =
    ap (λ (x : Channel). x.timetable) (at_map (Writes.every_written Reset) nothing m.channels (c - 1) (omega (arith, 1≤c, l)))
    ∙ ap hours (in-every Reset (channel_at m c))

-- of an image, or of the zeros that a refused power-up takes
restored-none : (img : List ℕ) (c : ℕ) → 1 ≤ c → c ≤ 16 → (channel_at (Restored.powered_up (Image.decode img)) c).timetable ≡ no_windows
unfolding Restored.powered_up Image.decode Image.setup_from Image.entries_from Restored.restored
restored-none img c a b =
    ap (λ (ch : Channel). ch.timetable) (at_map Restored.restored (Image.entry_of nothing) (Image.decode img).entries (c - 1) (omega arith))

none : (img : List ℕ) (c : ℕ) → 1 ≤ c → c ≤ 16 → (channel_at (power_up img) c).timetable ≡ no_windows
unfolding power_up
none img c a b = go (Questions.power_up_reply img)
  where
    go : (r : Reply) → (channel_at (powered_up_as r img) c).timetable ≡ no_windows
    go (Ok n) = restored-none img c a b
    go (Err r) = restored-none _ c a b

-- ---- closed by what was given: the first windows of those that stand are those that were given
first-given : (ns : List ℕ) (j : ℕ) (zs : List ℕ) → length ns ≤ j → take (length ns) (map window_of (take j (ns ++ zs))) ≡ map window_of ns
first-given [] j zs h = refl
first-given (n ∷ ns) zero zs h = absurd (omega arith)
first-given (n ∷ ns) (suc j) zs h = ap (λ (l : List Window). window_of n ∷ l) (first-given ns j zs (omega arith))

closes : (k : Clock) (ws : List ℕ) → length ws ≤ 8 → closed k (timetable_of ws) ≡ minute_set k && (leb 1 (length ws) && not (any_opens k.minute (map window_of ws)))
unfolding closed
closes k ws l =
    ap (λ (t : List ℕ). minute_set k && ((leb 1 (length t) && leb (length t) 8) && shut (take (length t) (map window_of (take 8 (ws ++ replicate 8 0))))))
    (take_all 8 ws l)
    ∙ go (leb 1 (length ws)) (leb (length ws) 8) (le-leb (length ws) 8 l)
  where
    shut : List Window → Bool
    shut ws = not (any_opens k.minute ws)

    go : (a b : Bool) → b ≡ true →
        minute_set k && ((a && b) && shut (take (length ws) (map window_of (take 8 (ws ++ replicate 8 0))))) ≡ minute_set k && (a && shut (map window_of ws))
    go true b p = rw (p, first-given ws 8 (replicate 8 0) l)
    go false b p = refl

pub given-claims : Given
given-claims =
    record {
      given = given-windows;
      stay = λ m c xs 1≤c e. run-stays c 1≤c m xs e;
      emptied = emptied;
      none = none;
      closes = closes;
    }

-- ---- all in one
-- an accepted call has at most eight windows
at_most : (c : ℕ) (ws : List ℕ) → number_of (Questions.windows_reply c ws) ≡ 0 → length ws ≤ 8
unfolding Questions.windows_reply
at_most c ws a = go (Questions.windows_reply c ws) refl a
  where
    go : (r : Reply) → Questions.windows_reply c ws ≡ r → number_of r ≡ 0 → length ws ≤ 8
    go (Ok q) e p = leb→le (length ws) 8 (asked-yes (Questions.windows_questions c ws) (Ok 0) q e).1.0
    go (Err q) e p = not-zero q p

pub closes-by-calls : Closes
unfolding step run has_or_resets Tick.ticked Tick.tick_shared
closes-by-calls m n c ws xs 1≤c l hn some a calm stays never =
    let b₀ = (step m (minute n)).box in
    let b = (step b₀ (windows c ws)).box in
    let z = run b xs in
    let size : length b₀.channels ≡ length m.channels = step-size m (minute n) in
    let has : (channel_at z c).timetable ≡ timetable_of ws =
    run-stays c 1≤c b xs stays ∙ given-windows b₀ c ws 1≤c (subst (λ (k : ℕ). c ≤ k) (sym size) l) a in
    let now : After n (ticks_in xs) z.shared.clock = clock m n (windows c ws ∷ xs) hn calm ∙ ap (after n) (omega arith) in
    let next : After n (suc (ticks_in xs)) (Tick.tick_shared z.shared).clock = moved n (ticks_in xs) z.shared.clock now in
    let j : ℕ = (n + suc (ticks_in xs) / 1920) % 10080 in
    let e : closed (Tick.ticked z).shared.clock (channel_at z c).timetable ≡ true =
    ap (closed (Tick.tick_shared z.shared).clock) has
    ∙ closes (Tick.tick_shared z.shared).clock ws (at_most c ws a)
    ∙ ap (λ (x : Clock). minute_set x && (leb 1 (length ws) && not (any_opens x.minute (map window_of ws)))) next
    ∙ rw (le-leb j 10079 (omega arith), le-leb 1 (length ws) some, never) in
    off-ticked z c e
