-- The facts of specs/DataFacts.antt, by the definitions. Assumes nothing.
use mathlib.Core.Path.{◌≡◌, refl}
use mathlib.Core.Bool.{Bool, true, false, cond}
use mathlib.Core.List.{List}
use Prim.Native.Nat.{ℕ, ◌+◌, ◌/◌, ◌<◌}
use native.Mathlib.Omega.{arith}
use Rattle.numbers.specs.Reals.{real_from}
use Rattle.model.specs.declared.DataChannel.{DataChannel}
use Rattle.model.specs.declared.Module.{Module}
use Rattle.model.specs.declared.DataRegister.{DataRegister}
use Rattle.model.specs.declared.DataRegister.TheVariants.{RealA, RealB, TimerA, TimerB, LookUp1, LookUp2}
use Rattle.model.specs.State.{data_channel_of, write_enable_of, set_real_a, set_real_b, keep_real_a, keep_real_b}
use Rattle.model.specs.Registers.{data_channel, unlisted, data_row, place}
use Rattle.model.specs.Tick.{save_due, ticked, data_timers_run, data_ticked}
use Rattle.model.specs.Writes.{data_written}
use Rattle.model.specs.Calls.{step}
use Rattle.model.specs.TwoLists.{stranger}
use Rattle.model.specs.DataFacts.{DataFacts}

found : (r : DataRegister) → place (0x130 + (data_row r).number) ≡ data_channel r
unfolding place
found RealA = refl
found RealB = refl
found TimerA = refl
found TimerB = refl
found LookUp1 = refl
found LookUp2 = refl

none_at_12 : (n : ℕ) → n < 0x10 → place (0x120 + n) ≡ unlisted
unfolding place
none_at_12 n h = let e : (0x120 + n) / 16 ≡ 18 = omega arith in rw e

no-stranger : (c : ℕ) (ns : List ℕ) (n : ℕ) → n < 0x10 → stranger c ns ((0x130 + n) / 16) ≡ false
unfolding stranger
no-stranger c ns n h = let e : (0x130 + n) / 16 ≡ 19 = omega arith in rw e

saved : (m : Module) → save_due m.shared ≡ true → (data_channel_of (ticked m)).kept.a ≡ (data_channel_of m).reals.a
unfolding ticked data_ticked data_timers_run
saved m e = rw e

unsaved : (m : Module) → save_due m.shared ≡ false → (data_channel_of (ticked m)).kept.a ≡ (data_channel_of m).kept.a
unfolding ticked data_ticked data_timers_run
unsaved m e = rw e

-- what is the same with the one and with the other is the same with either
either_way : {A : Type 0} (f : DataChannel → A) (b : Bool) (x y : DataChannel) (v : A) → f x ≡ v → f y ≡ v → f (cond b x y) ≡ v
either_way f true x y v p q = p
either_way f false x y v p q = q

-- what is the same whether the tick saves or not
after-tick : {A : Type 0} (f : DataChannel → A) (m : Module) (v : A) → f (keep_real_a (data_timers_run (data_channel_of m))) ≡ v →
    f (data_timers_run (data_channel_of m)) ≡ v → f (data_channel_of (ticked m)) ≡ v
unfolding ticked data_ticked
after-tick f m v p q = either_way f (save_due m.shared) (keep_real_a (data_timers_run (data_channel_of m))) (data_timers_run (data_channel_of m)) v p q

pub data-facts : DataFacts
unfolding ticked data_ticked data_timers_run data_written step
data-facts =
    record {
      found = found;
      none_at_12 = none_at_12;
      saved = saved;
      unsaved = unsaved;
      not_saved = λ m. after-tick (λ d. d.kept.b) m _ refl refl;
      same_reals = λ m. after-tick (λ d. d.reals) m _ refl refl;
      same_table1 = λ m. after-tick (λ d. d.table1) m _ refl refl;
      same_table2 = λ m. after-tick (λ d. d.table2) m _ refl refl;
      first_allowed = λ bs. refl;
      second_allowed = λ bs. refl;
      first_timer = λ m. after-tick (λ d. d.timers.a) m _ refl refl;
      second_timer = λ m. after-tick (λ d. d.timers.b) m _ refl refl;
      a_taken = λ s bs d. either_way (λ x. x.reals.a) (write_enable_of s) (keep_real_a (set_real_a (real_from bs) d)) (set_real_a (real_from bs) d) _ refl refl;
      a_kept = λ s bs d e. rw e;
      a_not_kept = λ s bs d e. rw e;
      b_taken = λ s bs d. either_way (λ x. x.reals.b) (write_enable_of s) (keep_real_b (set_real_b (real_from bs) d)) (set_real_b (real_from bs) d) _ refl refl;
      b_kept = λ s bs d e. rw e;
      b_not_kept = λ s bs d e. rw e;
      unseen = λ m d. refl;
      reads_kept = λ c ns n h lent. no-stranger c ns n h;
      writes_kept = λ c ns n h bs. no-stranger c ns n h;
      look_ups_kept = λ c ns k x. refl;
      unchanged = λ m k x. refl;
    }
