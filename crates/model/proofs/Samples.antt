-- A level puts InFlag and Counter (`level-puts`), and a current looks at neither and leaves both, so that the two can change places (`current-puts`). Assumes
-- nothing.
use Rattle.std.specs.Prelude.{Ok, Err}
use mathlib.Core.Path.{◌≡◌, refl, sym, ◌∙◌, ap}
use mathlib.Core.Bool.{Bool, true, false, cond, not, ◌&&◌, beq}
use mathlib.Core.List.{List, ◌∷◌}
use Prim.Native.Nat.{ℕ}
use lib.Ieee.{Float}
use lib.IntN.{ℤ}
use Rattle.counts.specs.Counts.{counter_step}
use Rattle.model.specs.declared.Channel.{Channel}
use Rattle.model.specs.declared.Module.{Module}
use Rattle.model.specs.Questions.{Reply}
use Rattle.model.specs.declared.Shared.{Shared}
use Rattle.model.specs.State.{channel_at, put_channel, in_flag_of, out_flag_of, set_in_flag, set_out_flag, set_control, set_out_current, with_counter}
use Rattle.model.specs.Settings.{simulates_input, silences_overload}
use Rattle.model.specs.Channel.{set_overload, await_feedback, start_fb_timer, input_becomes, take_level, above_trip, tripped, changed, take_current, take_sample}
use Rattle.model.specs.Writes.{digital_written}
use Rattle.model.specs.Questions.{number_of, sample_reply}
use Rattle.model.specs.Calls.{Request, sample, sample_leaves, step}
use Rattle.model.specs.TwoLists.{stranger, struck, marks}
use Rattle.model.specs.Samples.{Samples}
use Rattle.model.proofs.Laws.Inputs.{Inputs, inputs, taken, sensed, in-level, in-current}
use Rattle.model.proofs.Laws.Replies.{not-zero}
use Rattle.model.proofs.Laws.Tests.{picked}

-- InFlag and Counter put into a channel
abbrev put : Bool → ℤ → Channel → Channel
put b n ch = set_in_flag b (with_counter n ch)

level-puts : (b : Bool) (ch : Channel) → take_level b ch ≡ put (in_flag_of (take_level b ch)) (take_level b ch).counter ch
unfolding take_level input_becomes
level-puts b ch = go (simulates_input ch) (b && not (in_flag_of ch))
  where
    after : Bool → Bool → Channel
    after simulated rise = cond simulated ch (set_in_flag b (cond rise (with_counter (counter_step ch.counter) ch) ch))

    go : (simulated rise : Bool) → after simulated rise ≡ put (in_flag_of (after simulated rise)) (after simulated rise).counter ch
    go true rise = refl
    go false true = refl
    go false false = refl

-- ---- what a current does to a channel into which they are put
module _ (b : Bool) (n : ℤ) where
  changed-puts : (was : Bool) (ch : Channel) → changed was (put b n ch) ≡ put b n (changed was ch)
  unfolding changed
  changed-puts was ch = sym (picked (put b n) (beq was (out_flag_of ch)) ch (await_feedback (start_fb_timer ch)))

  tripped-puts : (ch : Channel) → tripped (put b n ch) ≡ put b n (tripped ch)
  unfolding tripped
  tripped-puts ch = let off = set_out_flag false (set_control false ch) in sym (picked (put b n) (silences_overload ch) off (set_overload off))

  current-puts : (s : Shared) (x : Float) (ch : Channel) → take_current s x (put b n ch) ≡ put b n (take_current s x ch)
  unfolding take_current
  current-puts s x ch =
      let stored = set_out_current x ch in
      let above = above_trip s stored.currents in
      ap (λ (c : Channel). cond above c (put b n stored)) (ap (changed (out_flag_of ch)) (tripped-puts stored) ∙ changed-puts (out_flag_of ch) (tripped stored))
      ∙ sym (picked (put b n) above (changed (out_flag_of ch) (tripped stored)) stored)

-- ---- both
both : (s : Shared) (b : Bool) (x : Float) (ch : Channel) → take_sample s b x ch ≡ put (in_flag_of (take_level b ch)) (take_level b ch).counter (take_current s x ch)
unfolding take_sample
both s b x ch = ap (take_current s x) (level-puts b ch) ∙ current-puts (in_flag_of (take_level b ch)) (take_level b ch).counter s x ch

-- what a level puts is decided by what a current leaves
either_first : (s : Shared) (b : Bool) (x : Float) (ch : Channel) → take_sample s b x ch ≡ take_level b (take_current s x ch)
either_first s b x ch =
    let t = take_current s x ch in
    let e : inputs (take_level b ch) ≡ inputs (take_level b t) = in-level b ch ∙ ap (taken sensed b) (sym (in-current s x ch)) ∙ sym (in-level b t) in
    both s b x ch ∙ ap (λ (n : Inputs). put n.level n.counter t) e ∙ sym (level-puts b t)

-- ---- a call
accepted : (m : Module) (k : ℕ) (b : Bool) (x : Float) → (step m (sample k b x)).answer.number ≡ 0 →
    (step m (sample k b x)).box ≡ put_channel k (take_current m.shared x (take_level b (channel_at m k))) m
unfolding step take_sample
accepted m k b x e = go (sample_reply k x) e
  where
    ch : Channel
    ch = take_current m.shared x (take_level b (channel_at m k))

    go : (r : Reply) → number_of r ≡ 0 → sample_leaves r k ch m ≡ put_channel k ch m
    go (Ok n) e = refl
    go (Err q) e = not-zero q e

struck_as_one : (c : ℕ) (ns : List ℕ) (k : ℕ) (b : Bool) (x : Float) (xs : List Request) → stranger c ns k ≡ true →
    struck c ns (sample k b x ∷ xs) ≡ struck c ns xs
unfolding struck
struck_as_one c ns k b x xs e = rw e

stays : (c : ℕ) (ns : List ℕ) (k : ℕ) (b : Bool) (x : Float) (xs : List Request) → stranger c ns k ≡ false →
    struck c ns (sample k b x ∷ xs) ≡ sample k b x ∷ struck c ns xs
unfolding struck
stays c ns k b x xs e = rw e

pub samples : Samples
unfolding digital_written marks
samples =
    record {
      accepted = accepted;
      both = both;
      either_first = either_first;
      struck_as_one = struck_as_one;
      stays = stays;
      unmarked = λ w k b x xs. refl;
      written_in_flag = λ s bs ch. ap (λ (n : Inputs). n.level) (in-current s _ ch);
      written_counter = λ s bs ch. ap (λ (n : Inputs). n.counter) (in-current s _ ch);
    }
