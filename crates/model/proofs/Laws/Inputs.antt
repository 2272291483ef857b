-- What decides a channel's InFlag, Counter and operating time, with the references that it names and its windows: the part of a channel that another may learn, or
-- that a list of calls tells. For each rule, what it does to that part. Assumes nothing.
use mathlib.Core.Path.{◌≡◌, refl, ◌∙◌, ap}
use mathlib.Core.Bool.{Bool, true, false, cond, not, ◌&&◌, beq}
use mathlib.Core.List.{List}
use Prim.Native.Nat.{ℕ}
use lib.Ieee.{Float}
use lib.IntN.{ℤ}
use Rattle.counts.specs.declared.OperatingCount.{OperatingCount}
use Rattle.counts.specs.declared.Operating.{Operating}
use Rattle.counts.specs.Counts.{counter_step, operating_tick, is_positive}
use Rattle.model.specs.declared.Config.{Config}
use Rattle.model.specs.declared.Function.{Function}
use Rattle.model.specs.declared.Timetable.{Timetable}
use Rattle.model.specs.declared.Channel.{Channel}
use Rattle.model.specs.declared.Shared.{Shared}
use Rattle.model.specs.declared.Function.TheVariants.{Input, Output, OneShot, DutyCycle, Timer}
use Rattle.model.specs.State.{operating_time, out_flag_of, in_flag_of, control, out_timer_of, set_in_flag, set_out_current, with_counter, with_operating}
use Rattle.model.specs.Hours.{closed}
use Rattle.model.specs.Settings as Settings
use Rattle.model.specs.Settings.{bit, functions}
use Rattle.model.specs.Channel as Rules
use Rattle.model.specs.Tick as Tick
use Rattle.model.proofs.Laws.Tests.{either}

pub record Inputs : Type 0 where
  pub level : Bool
  pub config : Config
  pub counter : ℤ
  pub kept : ℤ
  pub operating : Operating
  pub kept-operating : OperatingCount
  pub timetable : Timetable

abbrev pub inputs_of : Bool → Config → ℤ → ℤ → Operating → OperatingCount → Timetable → Inputs
inputs_of b g n k t kt w = record { level = b; config = g; counter = n; kept = k; operating = t; kept-operating = kt; timetable = w }

abbrev pub inputs : Channel → Inputs
inputs ch = inputs_of (in_flag_of ch) ch.config ch.counter ch.kept.counter (operating_time ch) ch.kept.operating ch.timetable

-- an InFlag that is given a value: a rise counts
unfoldable pub given : Bool → Inputs → Inputs
given b n = inputs_of b n.config (cond (b && not n.level) (counter_step n.counter) n.counter) n.kept n.operating n.kept-operating n.timetable

-- a Counter that is kept, and an operating time
unfoldable pub kept_if : Bool → Inputs → Inputs
kept_if b n = inputs_of n.level n.config n.counter (cond b n.counter n.kept) n.operating n.kept-operating n.timetable

unfoldable pub time-kept-if : Bool → Inputs → Inputs
time-kept-if b n = inputs_of n.level n.config n.counter n.kept n.operating (cond b n.operating.count n.kept-operating) n.timetable

-- an operating time that a tick finds with InFlag TRUE or FALSE
unfoldable pub operated-in : Inputs → Inputs
operated-in n = inputs_of n.level n.config n.counter n.kept (cond n.level (operating_tick n.operating) n.operating) n.kept-operating n.timetable

-- both kept, by a save; and a whole tick, which saves or not
abbrev saved-in : Bool → Inputs → Inputs
saved-in due n = time-kept-if due (kept_if due n)

unfoldable pub tick-in : Bool → Inputs → Inputs
tick-in due n = saved-in due (operated-in n)

-- the same where `who` says so of the settings
unfoldable pub taken : (Config → Bool) → Bool → Inputs → Inputs
taken who b n = cond (who n.config) (given b n) n

-- windows that are given
abbrev pub given-windows : Timetable → Inputs → Inputs
given-windows t n = inputs_of n.level n.config n.counter n.kept n.operating n.kept-operating t

abbrev pub simulated : Config → Bool
simulated g = bit 0 g.enablebit

abbrev pub sensed : Config → Bool
sensed g = not (simulated g)

in-becomes : (b : Bool) (ch : Channel) → inputs (Rules.input_becomes b ch) ≡ given b (inputs ch)
unfolding Rules.input_becomes given
in-becomes b ch = go (b && not (in_flag_of ch))
  where
    go : (t : Bool) → inputs (set_in_flag b (cond t (with_counter (counter_step ch.counter) ch) ch))
        ≡ inputs_of b ch.config (cond t (counter_step ch.counter) ch.counter) ch.kept.counter (operating_time ch) ch.kept.operating ch.timetable
    go true = refl
    go false = refl

pub in-level : (b : Bool) (ch : Channel) → inputs (Rules.take_level b ch) ≡ taken sensed b (inputs ch)
unfolding Rules.take_level taken
in-level b ch = go (Settings.simulates_input ch)
  where
    go : (t : Bool) → inputs (cond t ch (Rules.input_becomes b ch)) ≡ cond (not t) (given b (inputs ch)) (inputs ch)
    go true = refl
    go false = in-becomes b ch

pub in-simulate : (b : Bool) (ch : Channel) → inputs (Rules.simulate b ch) ≡ taken simulated b (inputs ch)
unfolding Rules.simulate taken
in-simulate b ch = go (Settings.simulates_input ch)
  where
    go : (t : Bool) → inputs (cond t (Rules.input_becomes b ch) ch) ≡ cond t (given b (inputs ch)) (inputs ch)
    go true = in-becomes b ch
    go false = refl

-- ---- rules that leave it
module _ (ch : Channel) where
  abbrev Kept : Channel → Type 0
  Kept x = inputs x ≡ inputs ch

  pub in-changed : (was : Bool) → Kept (Rules.changed was ch)
  unfolding Rules.changed
  in-changed was = either Kept (beq was (out_flag_of ch)) refl refl

  pub in-tripped : Kept (Rules.tripped ch)
  unfolding Rules.tripped
  in-tripped = either Kept (Settings.silences_overload ch) refl refl

  pub in-take_out : (b : Bool) → Kept (Rules.take_out b ch)
  unfolding Rules.take_out
  in-take_out b = either Kept (b && not (Settings.not_input (functions ch))) refl refl

  pub in-take_control : (b : Bool) → Kept (Rules.take_control b ch)
  unfolding Rules.take_control
  in-take_control b = either Kept (b && not (Settings.is_special (functions ch))) refl refl

  pub in-clear_acts : Kept (Rules.clear_acts ch)
  unfolding Rules.clear_acts
  in-clear_acts = refl

  pub in-acknowledged : Kept (Rules.acknowledged ch)
  unfolding Rules.acknowledged
  in-acknowledged = refl

  in-saved : (due : Bool) → inputs (Tick.saved due ch) ≡ saved-in due (inputs ch)
  unfolding Tick.saved kept_if time-kept-if
  in-saved true = refl
  in-saved false = refl

  in-judged : (s : Shared) → Kept (Tick.judged s ch)
  unfolding Tick.judged
  in-judged s = refl

  in-shut_down : (out : Bool) → Kept (Tick.shut_down out ch)
  unfolding Tick.shut_down
  in-shut_down out = either Kept out refl refl

  in-off_while_closed : (s : Shared) → Kept (Tick.off_while_closed s ch)
  unfolding Tick.off_while_closed
  in-off_while_closed s = in-shut_down (closed s.clock ch.timetable)

  in-timers_run : Kept (Tick.timers_run ch)
  unfolding Tick.timers_run
  in-timers_run = refl

  in-dropped : Kept (Tick.dropped ch)
  in-dropped = either Kept (Tick.fell ch) refl refl

  in-timed : Kept (Tick.timed ch)
  in-timed = either Kept (control ch) refl refl

  in-turned : Kept (Tick.turned ch)
  in-turned = either Kept (control ch && not (is_positive (out_timer_of ch))) refl refl

  in-operated : inputs (Tick.operated ch) ≡ operated-in (inputs ch)
  unfolding Tick.operated operated-in
  in-operated = go (in_flag_of ch)
    where
      go : (b : Bool) → inputs (cond b (with_operating (operating_tick (operating_time ch)) ch) ch)
          ≡ inputs_of (in_flag_of ch) ch.config ch.counter ch.kept.counter (cond b (operating_tick (operating_time ch)) (operating_time ch)) ch.kept.operating ch.timetable
      go true = refl
      go false = refl

pub in-current : (s : Shared) (x : Float) (ch : Channel) → inputs (Rules.take_current s x ch) ≡ inputs ch
unfolding Rules.take_current
in-current s x ch =
    let stored = set_out_current x ch in
    either (Kept ch) (Rules.above_trip s stored.currents) (in-changed (Rules.tripped stored) (out_flag_of ch) ∙ in-tripped stored) refl

pub in-sample : (s : Shared) (b : Bool) (x : Float) (ch : Channel) → inputs (Rules.take_sample s b x ch) ≡ taken sensed b (inputs ch)
unfolding Rules.take_sample
in-sample s b x ch = in-current s x (Rules.take_level b ch) ∙ in-level b ch

pub in-flag_reg : (b : ℕ) (ch : Channel) → inputs (Rules.flag_reg_written b ch) ≡ taken simulated (bit 6 b) (inputs ch)
unfolding Rules.flag_reg_written
in-flag_reg b ch = in-simulate _ _ ∙ ap (taken simulated (bit 6 b)) (in-changed _ _ ∙ in-take_control _ _ ∙ in-take_out _ _ ∙ in-clear_acts _)

pub in-out_flags : (b : Bool) (ch : Channel) → inputs (Rules.out_flags_written b ch) ≡ inputs ch
unfolding Rules.out_flags_written
in-out_flags b ch = either (Kept ch) (out_flag_of ch) (in-changed _ _ ∙ in-take_out _ _) (in-take_out _ _)

-- ---- a tick leaves it
in-one_shot : (ch : Channel) → inputs (Tick.one_shot ch) ≡ inputs ch
unfolding Tick.one_shot
in-one_shot ch =
    let x = Tick.loaded ch in
    in-timed (Tick.seen (Tick.dropped x)) ∙ in-dropped x ∙ either (Kept ch) (Tick.rose ch) refl refl

in-duty_cycle : (ch : Channel) → inputs (Tick.duty_cycle ch) ≡ inputs ch
unfolding Tick.duty_cycle
in-duty_cycle ch =
    let x = Tick.switched_on ch in
    in-turned (Tick.seen (Tick.dropped x)) ∙ in-dropped x ∙ either (Kept ch) (Tick.rose ch) refl refl

in-timer_output : (ch : Channel) → inputs (Tick.timer_output ch) ≡ inputs ch
unfolding Tick.timer_output
in-timer_output ch = in-timed (Tick.seen (Tick.dropped ch)) ∙ in-dropped ch

in-special : (f : Function) (ch : Channel) → inputs (Tick.special f ch) ≡ inputs ch
in-special Input ch = refl
in-special Output ch = refl
in-special OneShot ch = in-one_shot ch
in-special DutyCycle ch = in-duty_cycle ch
in-special Timer ch = in-timer_output ch

in-guarded : (s : Shared) (ch : Channel) → inputs (Tick.guarded s ch) ≡ inputs ch
unfolding Tick.guarded
in-guarded s ch = either (Kept ch) (Tick.overloaded s ch) (in-changed _ _ ∙ in-tripped _) refl

pub in-driven : (s : Shared) (out : Bool) (ch : Channel) → inputs (Tick.driven s out ch) ≡ inputs ch
unfolding Tick.driven
in-driven s out ch =
    let off = Tick.off_while_closed s (Tick.shut_down out ch) in
    let run = Tick.timers_run off in
    let driven = Tick.special (functions run) run in
    in-guarded s (Rules.changed (out_flag_of ch) driven) ∙ in-changed driven (out_flag_of ch) ∙ in-special (functions run) run ∙ in-timers_run off
    ∙ in-off_while_closed (Tick.shut_down out ch) s ∙ in-shut_down ch out

in-looked : (s : Shared) (levels : List Bool) (ch : Channel) → inputs (Tick.looked s levels ch) ≡ inputs ch
unfolding Tick.looked
in-looked s levels ch = either (Kept ch) (Tick.look_due s) refl refl

in-reviewed : (s : Shared) (due : Bool) (levels : List Bool) (ch : Channel) → inputs (Tick.reviewed s due levels ch) ≡ tick-in due (inputs ch)
unfolding Tick.reviewed tick-in
in-reviewed s due levels ch =
    in-saved _ _ ∙ ap (saved-in due) (in-judged _ _ ∙ in-operated _ ∙ ap operated-in (in-looked _ _ _))

-- a whole tick
pub in-tick : (s : Shared) (due : Bool) (levels : List Bool) (out : Bool) (ch : Channel) → inputs (Tick.channel_ticked s out due levels ch) ≡ tick-in due (inputs ch)
in-tick s due levels out ch = in-reviewed s due levels (Tick.driven s out ch) ∙ ap (tick-in due) (in-driven s out ch)
