-- The claims on two readings hold. Assumes nothing.
--
-- A read of Counter puts its channel back as it was, so the box is left as by every wire call. A sample's Counter is that of its level.
use mathlib.Core.Path.{◌≡◌, refl, sym, ap, subst, ◌∙◌}
use mathlib.Core.Bool.{true, false}
use mathlib.Core.List.{List, [], ◌∷◌}
use Prim.Native.Nat.{ℕ, zero, suc, ◌-◌}
use native.Mathlib.Omega.{arith}
use lib.Ieee.{Float}
use lib.Ieee.Scale.{finite}
use lib.ListN.{length, get_or, set}
use lib.Seq.{get_or-set_same}
use Rattle.counts.specs.Counts.{counter_step}
use Rattle.model.specs.declared.Channel.{Channel}
use Rattle.model.specs.declared.Module.{Module}
use Rattle.model.specs.State.{channel_at, nothing, with_channels, in_flag_of}
use Rattle.model.specs.Settings.{is_digital, simulates_input}
use Rattle.model.specs.Channel.{input_becomes, take_level, take_sample}
use Rattle.model.specs.Reads.{after_read}
use Rattle.model.specs.Questions.{sample_reply}
use Rattle.model.specs.Calls.{sample, Stepped, step, cleared, watchdog_preset}
use Rattle.model.proofs.Laws.Tests.{range}
use Rattle.model.proofs.Samples.{samples}
use Rattle.charge.specs.Charge.{pulses}
use Rattle.charge.specs.Readings.{reading}
use Rattle.charge.specs.TwoReadings.{TwoReadings}
use Rattle.charge.proofs.Laws.Readings.{wire-read}
use Rattle.charge.proofs.Claims.{charges, nothing-charged}

done : (m : Module) (k : ℕ) → is_digital k ≡ true → (reading m k).number ≡ 0
unfolding reading
done m k d = rw d (ap (λ (s : Stepped). s.answer.number) (wire-read m k d))

counter-is : (m : Module) (k : ℕ) → is_digital k ≡ true → (reading m k).counter ≡ (channel_at m k).counter
unfolding reading
counter-is m k d = rw d refl

-- ---- what a reading leaves
own_put : (cs : List Channel) (i : ℕ) → set cs i (get_or cs i nothing) ≡ cs
own_put [] i = refl
own_put (x ∷ xs) zero = refl
own_put (x ∷ xs) (suc i) = ap (λ (r : List Channel). x ∷ r) (own_put xs i)

leaves : (m : Module) (k : ℕ) → is_digital k ≡ true → (reading m k).after ≡ watchdog_preset (cleared m)
unfolding reading cleared watchdog_preset after_read
leaves m k d =
    rw d (ap (λ (s : Stepped). s.box) (wire-read m k d) ∙ ap (λ (cs : List Channel). watchdog_preset (with_channels cs (cleared m))) (own_put m.channels (k - 1)))

channels-stay : (m : Module) (k : ℕ) → is_digital k ≡ true → (reading m k).after.channels ≡ m.channels
unfolding cleared watchdog_preset
channels-stay m k d = ap (λ (n : Module). n.channels) (leaves m k d)

-- ---- nothing between two readings
same_count : (m : Module) (k : ℕ) → is_digital k ≡ true → (reading (reading m k).after k).counter ≡ (reading m k).counter
same_count m k d =
    counter-is (reading m k).after k d ∙ ap (λ (cs : List Channel). (get_or cs (k - 1) nothing).counter) (channels-stay m k d) ∙ sym (counter-is m k d)

-- ---- a rise between them
-- the sample leaves its channel with one more in Counter
risen : (m : Module) (k : ℕ) (x : Float) → length m.channels ≡ 16 → is_digital k ≡ true → finite x ≡ true → simulates_input (channel_at m k) ≡ false
    → in_flag_of (channel_at m k) ≡ false → (channel_at (step m (sample k true x)).box k).counter ≡ counter_step (channel_at m k).counter
unfolding step sample_reply take_level input_becomes
risen m k x l d f s i =
    let (a, b) = range k d in
    let ch = channel_at m k in
    let taken = take_sample m.shared true x ch in
    let count : taken.counter ≡ counter_step ch.counter = ap (λ (c : Channel). c.counter) (samples.both m.shared true x ch) ∙ rw (s, i) refl in
    let there : get_or (set m.channels (k - 1) taken) (k - 1) nothing ≡ taken = get_or-set_same m.channels (k - 1) taken nothing (omega (arith, l, a, b)) in
    rw (d, f) (ap (λ (c : Channel). c.counter) there ∙ count)

one-rise : (m : Module) (k : ℕ) (x : Float) → length m.channels ≡ 16 → is_digital k ≡ true → finite x ≡ true → simulates_input (channel_at m k) ≡ false
    → in_flag_of (channel_at m k) ≡ false → pulses (reading m k).counter (reading (step (reading m k).after (sample k true x)).box k).counter ≡ 1
one-rise m k x l d f s i =
    let m' = (reading m k).after in
    let e = channels-stay m k d in
    let back = sym e in
    let c = risen m' k x (subst (λ (cs : List Channel). length cs ≡ 16) back l) d f
    (subst (λ (cs : List Channel). simulates_input (get_or cs (k - 1) nothing) ≡ false) back s)
    (subst (λ (cs : List Channel). in_flag_of (get_or cs (k - 1) nothing) ≡ false) back i) in
    let later : (reading (step m' (sample k true x)).box k).counter ≡ counter_step (channel_at m k).counter
    = counter-is _ k d ∙ c ∙ ap (λ (cs : List Channel). counter_step (get_or cs (k - 1) nothing).counter) e in
    rw (counter-is m k d, later) (charges.rises 1 (channel_at m k).counter)

pub two-readings : TwoReadings
unfolding reading
two-readings =
    record {
      done = done;
      box = leaves;
      no_channel_lem = λ m k d. rw d refl;
      again = λ m k n t d. rw (same_count m k d) (nothing-charged (reading m k).counter n t);
      rise = one-rise;
    }
