-- What steps 2 to 6 of a tick leave of a channel, rule by rule: its settings, presets, currents, Counter, the user's registers, its windows, and what is kept. So the
-- channel after them is the one before it with the other parts put back. Assumes nothing.
use mathlib.Core.Path.{◌≡◌, refl, sym, ap, ◌∙◌}
use mathlib.Core.Bool.{Bool, not, ◌&&◌, beq}
use mathlib.Core.List.{List}
use Prim.Native.Nat.{ℕ}
use lib.IntN.{ℤ}
use Rattle.counts.specs.declared.TimerCount.{TimerCount}
use Rattle.counts.specs.Counts.{is_positive}
use Rattle.model.specs.declared.Config.{Config}
use Rattle.model.specs.declared.Currents.{Currents}
use Rattle.model.specs.declared.Function.{Function}
use Rattle.model.specs.declared.Kept.{Kept}
use Rattle.model.specs.declared.Timetable.{Timetable}
use Rattle.model.specs.declared.Channel.{Channel}
use Rattle.model.specs.declared.Shared.{Shared}
use Rattle.model.specs.declared.Function.TheVariants.{Input, Output, OneShot, DutyCycle, Timer}
use Rattle.model.specs.State.{channel_with, out_flag_of, in_flag_of, control, out_timer_of, fb_timer_of, out_preset_of, fb_preset_of}
use Rattle.model.specs.Hours.{closed}
use Rattle.model.specs.Settings.{functions, silences_overload}
use Rattle.model.specs.Channel.{changed, tripped}
use Rattle.model.specs.Tick as Tick
use Rattle.model.proofs.Laws.Tests.{either}
use Rattle.ticks.specs.PutBack.{put_back}

record Rest : Type 0 where
  config : Config
  out_preset : TimerCount
  fb_preset : TimerCount
  currents : Currents
  counter : ℤ
  user : List ℕ
  reals : List ℕ
  maintenance : List ℕ
  timetable : Timetable
  kept : Kept

abbrev rest : Channel → Rest
rest ch =
    record {
      config = ch.config;
      out_preset = out_preset_of ch;
      fb_preset = fb_preset_of ch;
      currents = ch.currents;
      counter = ch.counter;
      user = ch.user;
      reals = ch.reals;
      maintenance = ch.maintenance;
      timetable = ch.timetable;
      kept = ch.kept;
    }

-- a channel with these parts
abbrev with_rest : Rest → Channel → Channel
with_rest x ch =
    channel_with x.config ch.flags (out_timer_of ch) (fb_timer_of ch) x.out_preset x.fb_preset x.currents ch.errors x.counter ch.operating ch.quarters
    x.user x.reals x.maintenance x.timetable x.kept

put-back : (after ch : Channel) → rest after ≡ rest ch → put_back after ch ≡ after
unfolding put_back
put-back after ch e = ap (λ (x : Rest). with_rest x after) (sym e)

-- ---- the rules of a tick
module _ (ch : Channel) where
  abbrev Left : Channel → Type 0
  Left x = rest x ≡ rest ch

  left-changed : (was : Bool) → Left (changed was ch)
  unfolding changed
  left-changed was = either Left (beq was (out_flag_of ch)) refl refl

  left-tripped : Left (tripped ch)
  unfolding tripped
  left-tripped = either Left (silences_overload ch) refl refl

  left-shut_down : (out : Bool) → Left (Tick.shut_down out ch)
  unfolding Tick.shut_down
  left-shut_down out = either Left out refl refl

  left-off_while_closed : (s : Shared) → Left (Tick.off_while_closed s ch)
  unfolding Tick.off_while_closed
  left-off_while_closed s = left-shut_down (closed s.clock ch.timetable)

  left-timers_run : Left (Tick.timers_run ch)
  unfolding Tick.timers_run
  left-timers_run = refl

  left-loaded : Left (Tick.loaded ch)
  left-loaded = either Left (Tick.rose ch) refl refl

  left-switched_on : Left (Tick.switched_on ch)
  left-switched_on = either Left (Tick.rose ch) refl refl

  left-dropped : Left (Tick.dropped ch)
  left-dropped = either Left (Tick.fell ch) refl refl

  left-timed : Left (Tick.timed ch)
  left-timed = either Left (control ch) refl refl

  left-turned : Left (Tick.turned ch)
  left-turned = either Left (control ch && not (is_positive (out_timer_of ch))) refl refl

  left-operated : Left (Tick.operated ch)
  unfolding Tick.operated
  left-operated = either Left (in_flag_of ch) refl refl

  left-judged : (s : Shared) → Left (Tick.judged s ch)
  unfolding Tick.judged
  left-judged s = refl

-- ---- the special functions
left-one_shot : (ch : Channel) → rest (Tick.one_shot ch) ≡ rest ch
unfolding Tick.one_shot
left-one_shot ch =
    let x = Tick.loaded ch in
    left-timed (Tick.seen (Tick.dropped x)) ∙ left-dropped x ∙ left-loaded ch

left-duty_cycle : (ch : Channel) → rest (Tick.duty_cycle ch) ≡ rest ch
unfolding Tick.duty_cycle
left-duty_cycle ch =
    let x = Tick.switched_on ch in
    left-turned (Tick.seen (Tick.dropped x)) ∙ left-dropped x ∙ left-switched_on ch

left-timer_output : (ch : Channel) → rest (Tick.timer_output ch) ≡ rest ch
unfolding Tick.timer_output
left-timer_output ch = left-timed (Tick.seen (Tick.dropped ch)) ∙ left-dropped ch

left-special : (f : Function) (ch : Channel) → rest (Tick.special f ch) ≡ rest ch
left-special Input ch = refl
left-special Output ch = refl
left-special OneShot ch = left-one_shot ch
left-special DutyCycle ch = left-duty_cycle ch
left-special Timer ch = left-timer_output ch

-- ---- the two halves
left-guarded : (s : Shared) (ch : Channel) → rest (Tick.guarded s ch) ≡ rest ch
unfolding Tick.guarded
left-guarded s ch = either (Left ch) (Tick.overloaded s ch) (left-changed (tripped ch) (out_flag_of ch) ∙ left-tripped ch) refl

left-driven : (s : Shared) (out : Bool) (ch : Channel) → rest (Tick.driven s out ch) ≡ rest ch
unfolding Tick.driven
left-driven s out ch =
    let off = Tick.off_while_closed s (Tick.shut_down out ch) in
    let run = Tick.timers_run off in
    let x = Tick.special (functions run) run in
    left-guarded s (changed (out_flag_of ch) x) ∙ left-changed x (out_flag_of ch) ∙ left-special (functions run) run ∙ left-timers_run off
    ∙ left-off_while_closed (Tick.shut_down out ch) s ∙ left-shut_down ch out

left-looked : (s : Shared) (levels : List Bool) (ch : Channel) → rest (Tick.looked s levels ch) ≡ rest ch
unfolding Tick.looked
left-looked s levels ch = either (Left ch) (Tick.look_due s) refl refl

-- what is put back is all that they changed
pub put-back-ticked : (s : Shared) (out : Bool) (levels : List Bool) (ch : Channel)
    → put_back (Tick.judged s (Tick.operated (Tick.looked s levels (Tick.driven s out ch)))) ch
    ≡ Tick.judged s (Tick.operated (Tick.looked s levels (Tick.driven s out ch)))
put-back-ticked s out levels ch =
    let x = Tick.driven s out ch in
    let y = Tick.looked s levels x in
    let z = Tick.operated y in
    put-back (Tick.judged s z) ch (left-judged z s ∙ left-operated y ∙ left-looked s levels x ∙ left-driven s out ch)
