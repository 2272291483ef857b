-- The claim of specs/Runs.antt. What a call does to a channel's operating time is part of what the laws of Inputs say of each rule, and Stays of each call that
-- leaves it; here it is said of ticks and of lists. Assumes nothing.
use Rattle.std.specs.Prelude.{Ok, Err}
use mathlib.Core.Path.{◌≡◌, refl, sym, ◌∙◌, ap, subst}
use mathlib.Core.Bool.{Bool, true, false, cond, ◌&&◌, ◌||◌, and-true}
use mathlib.Core.List.{List, [], ◌∷◌}
use Prim.Native.Nat.{ℕ, zero, suc, ◌+◌, ◌-◌, ◌*◌, ◌≤◌, ◌<◌}
use native.Mathlib.Nat.{add-zero, add-suc}
use native.Mathlib.Omega.{arith}
use lib.Dec.{eqb}
use lib.ListN.{length}
use lib.Seq.{get_or-set_same}
use borrow.Author.Tests.{eqb-false}
use Rattle.counts.specs.declared.Operating.{Operating}
use Rattle.counts.specs.Counts.{operating_of, quarters_of, operating_tick}
use Rattle.counts.specs.Claims.{ran_for}
use Rattle.counts.proofs.Claims.{adds_up}
use Rattle.model.specs.declared.Channel.{Channel}
use Rattle.model.specs.declared.Config.{Config}
use Rattle.model.specs.declared.Module.{Module}
use Rattle.model.specs.Questions.{Reply}
use Rattle.model.specs.declared.ServiceRegister.{ServiceRegister}
use Rattle.model.specs.declared.DigitalRegister.{DigitalRegister}
use Rattle.model.specs.declared.CommonRegister.{CommonRegister}
use Rattle.model.specs.declared.ServiceRegister.TheVariants.{Highest, Reset, FreeRunTimer, WDTimer, ModuleConfig, WDPreset, WriteEnable, CommonError}
use Rattle.model.specs.declared.DigitalRegister.TheVariants.{FlagReg, OutTimer, Counter, OutCurrent, OperatingTime, UserBytes, FBTimer, FBPreset}
use Rattle.model.specs.declared.DigitalRegister.TheVariants.{OutPreset, ChConfig, MinCurrent, MaxCurrent, UserReals, Maintenance, ChError}
use Rattle.model.specs.declared.CommonRegister.TheVariants.{OutFlags, InFlags, IOChError, ChError as CommonChError}
use Rattle.model.specs.State.{operating_time, with_timetable, nothing, channel_at, in_flag_of, write_enable_of}
use Rattle.model.specs.Hours.{timetable_of}
use Rattle.model.specs.Registers.{Place, place, service_row, digital_row}
use Rattle.model.specs.Channel as Rules
use Rattle.model.specs.Tick as Tick
use Rattle.model.specs.Writes as Writes
use Rattle.model.specs.Image as Image
use Rattle.model.specs.Restored as Restored
use Rattle.model.specs.Questions as Questions
use Rattle.model.specs.Questions.{accepted}
use Rattle.model.specs.Calls.{Request, read, write, sample, look_up, minute, windows, tick, sort_of, step, run, cleared, watchdog_preset}
use Rattle.model.specs.Calls.{write_leaves, power_up, powered_up_as}
use Rattle.model.specs.Runs.{time_of, ticks_by, ticks_on, gives_by, gives, RunsAddUp, Runs}
use Rattle.model.proofs.Laws.Tests.{either, neither}
use Rattle.model.proofs.Laws.Lists.{at_map}
use Rattle.model.proofs.Laws.Places.{digital-place}
use Rattle.model.proofs.Laws.Replies.{not-zero}
use Rattle.model.proofs.Laws.Inputs.{Inputs, inputs, given, taken, kept_if, time-kept-if, operated-in, tick-in, in-sample, in-tick}
use Rattle.model.proofs.Laws.InputRegisters.{write-in, in-written, every_in, in-every, common-in}
use Rattle.model.proofs.Laws.Stays.{step-size, read_stays, written-stays, sample-stays, minute-stays}

-- ---- what each register does to it
taken-leaves : (who : Config → Bool) (b : Bool) (n : Inputs) → (taken who b n).operating ≡ n.operating
unfolding taken given
taken-leaves who b n = either (λ (x : Inputs). x.operating ≡ n.operating) (who n.config) refl refl

write-leaves : (r : DigitalRegister) (en : Bool) (bs : List ℕ) (n : Inputs) → ((digital_row r).number ≡ 4 → ⊥) → (write-in r en bs n).operating ≡ n.operating
unfolding write-in kept_if
write-leaves FlagReg en bs n d = taken-leaves _ _ n
write-leaves OutTimer en bs n d = refl
write-leaves Counter en bs n d = refl
write-leaves OutCurrent en bs n d = refl
write-leaves OperatingTime en bs n d = absurd (d refl)
write-leaves UserBytes en bs n d = refl
write-leaves FBTimer en bs n d = refl
write-leaves FBPreset en bs n d = refl
write-leaves OutPreset en bs n d = refl
write-leaves ChConfig en bs n d = refl
write-leaves MinCurrent en bs n d = refl
write-leaves MaxCurrent en bs n d = refl
write-leaves UserReals en bs n d = refl
write-leaves Maintenance en bs n d = refl
write-leaves ChError en bs n d = refl

every-leaves : (r : ServiceRegister) (n : Inputs) → ((service_row r).number ≡ 3 → ⊥) → (every_in r n).operating ≡ n.operating
unfolding every_in
every-leaves Highest n d = refl
every-leaves Reset n d = absurd (d refl)
every-leaves FreeRunTimer n d = refl
every-leaves WDTimer n d = refl
every-leaves ModuleConfig n d = refl
every-leaves WDPreset n d = refl
every-leaves WriteEnable n d = refl
every-leaves CommonError n d = refl

common-leaves : (r : CommonRegister) (bs : List ℕ) (i : ℕ) (n : Inputs) → (common-in r bs i n).operating ≡ n.operating
unfolding common-in
common-leaves OutFlags bs i n = refl
common-leaves InFlags bs i n = taken-leaves _ _ n
common-leaves IOChError bs i n = refl
common-leaves CommonChError bs i n = refl

-- the place of channel c in a box of sixteen
place_of : (c : ℕ) → 1 ≤ c → c ≤ 16 → (m : Module) → length m.channels ≡ 16 → c - 1 < length m.channels
place_of c a b m l = rw l (omega arith)

abbrev time : Inputs → Operating
time n = n.operating

-- so many ticks, and then so many
ran-sum : (a b : ℕ) (t : Operating) → ran_for b (ran_for a t) ≡ ran_for (a + b) t
ran-sum a zero t = rw add-zero
ran-sum a (suc b) t = ap operating_tick (ran-sum a b t) ∙ ap (λ (n : ℕ). ran_for n t) (sym (add-suc a b))

-- ---- what each call does to channel c of a box of sixteen
module _ (c : ℕ) (1≤c : 1 ≤ c) (c≤16 : c ≤ 16) where
  -- an accepted write, but of c's OperatingTime and of SWNo 3
  write-time : (m : Module) (r : Reply) (n : ℕ) (bs : List ℕ) → (eqb n (c * 0x10 + 0x4) || eqb n 0x3) && accepted r ≡ false
      → time_of (write_leaves r (place n) bs m) c ≡ time_of m c
  write-time m (Ok q) n bs e =
      let (d, d₃) = neither (eqb n (c * 0x10 + 0x4)) (eqb n 0x3) (sym (and-true (eqb n (c * 0x10 + 0x4) || eqb n 0x3)) ∙ e) in
      written-stays time c m 1≤c n bs
      (λ r i x. every-leaves r x (λ z. eqb-false _ _ d₃ (i ∙ z)))
      (λ r i x. write-leaves r (write_enable_of m.shared) bs x (λ z. eqb-false _ _ d (i ∙ ap (λ (k : ℕ). c * 0x10 + k) z)))
      (λ r i x. common-leaves r bs i x)
  write-time m (Err q) n bs e = refl

  -- a tick, which finds InFlag TRUE or FALSE
  ticked-time : (m : Module) → length m.channels ≡ 16
      → time_of (Tick.ticked m) c ≡ cond (in_flag_of (channel_at m c)) (operating_tick (time_of m c)) (time_of m c)
  unfolding Tick.ticked tick-in time-kept-if kept_if operated-in
  ticked-time m l = ap operating_time (at_map _ nothing m.channels (c - 1) (place_of c 1≤c c≤16 m l)) ∙ ap time (in-tick _ _ _ _ (channel_at m c))

  on-time : (b : Bool) (t : Operating) → cond b (operating_tick t) t ≡ ran_for (cond b 1 0) t
  on-time true t = refl
  on-time false t = refl

  step-time : (m : Module) → length m.channels ≡ 16 → (x : Request) → gives_by c m (sort_of x) ≡ false
      → time_of (step m x).box c ≡ ran_for (ticks_by (in_flag_of (channel_at m c)) (sort_of x)) (time_of m c)
  unfolding step cleared watchdog_preset
  step-time m l (read n lent) e = read_stays time c (cleared m) (Questions.read_reply n (place n) lent) n
  step-time m l (write n bs) e = write-time (cleared m) (Questions.write_reply (write_enable_of m.shared) n (place n) bs) n bs e
  step-time m l (sample k b x) e =
      sample-stays time c m (Questions.sample_reply k x) k (Rules.take_sample m.shared b x)
      (λ i ch. ap time (in-sample m.shared b x ch) ∙ taken-leaves _ _ (inputs ch))
  step-time m l (look_up k x) e = refl
  step-time m l (minute n) e = minute-stays time c m (Questions.minute_reply n) n
  step-time m l (windows k ws) e = sample-stays time c m (Questions.windows_reply k ws) k (with_timetable (timetable_of ws)) (λ i ch. refl)
  step-time m l tick e = ticked-time m l ∙ on-time (in_flag_of (channel_at m c)) (time_of m c)

  -- ---- a list
  runs-time : (m : Module) → length m.channels ≡ 16 → (xs : List Request) → gives c m xs ≡ false → time_of (run m xs) c ≡ ran_for (ticks_on c m xs) (time_of m c)
  unfolding run gives ticks_on
  runs-time m l [] e = refl
  runs-time m l (x ∷ xs) e =
      let (p, q) = neither (gives_by c m (sort_of x)) (gives c (step m x).box xs) e in
      runs-time (step m x).box (step-size m x ∙ l) xs q ∙ ap (ran_for (ticks_on c (step m x).box xs)) (step-time m l x p)
      ∙ ran-sum _ (ticks_on c (step m x).box xs) (time_of m c)

add_up : (m : Module) → length m.channels ≡ 16 → RunsAddUp m
add_up m l =
    record {
      count = λ c a b xs e f. ap (λ (t : Operating). t.count.0) (runs-time c a b m l xs e) ∙ adds_up.count (ticks_on c m xs) (time_of m c) f;
      quarters = λ c a b xs e. ap quarters_of (runs-time c a b m l xs e) ∙ adds_up.quarters (ticks_on c m xs) (time_of m c);
    }

-- ---- what gives a time anew
written : (m : Module) → length m.channels ≡ 16 → (c : ℕ) → 1 ≤ c → c ≤ 16 → (bs : List ℕ) → (step m (write (c * 0x10 + 0x4) bs)).answer.number ≡ 0
    → time_of (step m (write (c * 0x10 + 0x4) bs)).box c ≡ operating_of (Writes.operating_from bs)
unfolding step cleared watchdog_preset Writes.written write-in time-kept-if
written m l c a b bs ok = go (Questions.write_reply (write_enable_of m.shared) n (place n) bs) ok
  where
    n : ℕ
    n = c * 0x10 + 0x4

    ch : Channel
    ch = Writes.digital_written OperatingTime m.shared bs (channel_at m c)

    go : (r : Reply) → Questions.number_of r ≡ 0 → time_of (write_leaves r (place n) bs (cleared m)) c ≡ operating_of (Writes.operating_from bs)
    go (Ok q) e =
        subst (λ (p : Place). time_of (Writes.written p bs (cleared m)) c ≡ operating_of (Writes.operating_from bs)) (sym (digital-place c a b 4 (omega arith)))
        (ap operating_time (get_or-set_same m.channels (c - 1) ch nothing (place_of c a b m l)) ∙ ap time (in-written OperatingTime m.shared bs (channel_at m c)))
    go (Err q) e = not-zero q e

reset : (m : Module) → length m.channels ≡ 16 → (c : ℕ) → 1 ≤ c → c ≤ 16 →
    time_of (step m (write 0x3 (0xFF ∷ []))).box c ≡ operating_of (channel_at m c).kept.operating
unfolding step cleared watchdog_preset place Questions.write_reply Writes.written every_in
reset m l c a b =
    ap operating_time (at_map (Writes.every_written Reset) nothing m.channels (c - 1) (place_of c a b m l))
    ∙ ap time (in-every Reset (channel_at m c))

-- of an image, or of the zeros that a refused power-up takes
restored-time : (img : List ℕ) (c : ℕ) → 1 ≤ c → c ≤ 16 → (time_of (Restored.powered_up (Image.decode img)) c).quarters ≡ 0
unfolding Restored.powered_up Image.decode Image.setup_from Image.entries_from Restored.restored
restored-time img c a b =
    ap (λ (ch : Channel). ch.quarters)
    (at_map Restored.restored (Image.entry_of nothing) (Image.decode img).entries (c - 1) (omega arith))

powered_up_lem : (img : List ℕ) (c : ℕ) → 1 ≤ c → c ≤ 16 → (time_of (power_up img) c).quarters ≡ 0
unfolding power_up
powered_up_lem img c a b = go (Questions.power_up_reply img)
  where
    go : (r : Reply) → (time_of (powered_up_as r img) c).quarters ≡ 0
    go (Ok n) = restored-time img c a b
    go (Err r) = restored-time _ c a b

pub runs : Runs
runs = record { add_up = add_up; written = written; reset = reset; powered_up_lem = powered_up_lem }
