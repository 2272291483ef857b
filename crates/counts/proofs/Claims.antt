-- The claims of specs/Claims.antt. Assumes nothing.
use mathlib.Core.Path.{◌≡◌, ◌∙◌}
use Prim.Native.Nat.{ℕ, zero, suc, ◌+◌, ◌/◌, ◌%◌, ◌^◌, ◌<◌, ◌≤◌, min}
use native.Mathlib.Omega.{arith}
use lib.IntN.{ℤ, pos, neg_ℤ, ◌+ℤ◌, ◌-ℤ◌}
use mir.Syntax.{w32}
use mir.Val.{SFits}
use Rattle.integers.proofs.Claims.{wrapped-claim}
use Rattle.counts.specs.declared.TimerCount.{TimerCount}
use Rattle.counts.specs.declared.OperatingCount.{OperatingCount}
use Rattle.counts.specs.declared.Operating.{Operating}
use Rattle.counts.specs.Counts.{free_run_tick, watchdog_tick, out_timer_tick, feedback_tick, operating_step, counter_step}
use Rattle.counts.specs.Counts.{quarters_of, operating_tick}
use Rattle.counts.specs.Claims.{StepsHeld, ran_for, AddsUp}
use Rattle.counts.proofs.Laws.Down.{larger-fits}
use Rattle.counts.proofs.Laws.Quarters.{with-quarters, in-range, out_of_range, acting, by-quarters}

free-run : (t : TimerCount) → SFits w32 (free_run_tick t).0
unfolding free_run_tick
free-run t = wrapped-claim.held w32 (t.0 +ℤ pos 8)

watchdog : (t : TimerCount) → SFits w32 t.0 → SFits w32 (watchdog_tick t).0
unfolding watchdog_tick
watchdog t F = larger-fits t.0 (pos 0) F (record { sfits = omega arith })

out_timer : (t : TimerCount) → SFits w32 (out_timer_tick t).0
unfolding out_timer_tick
out_timer t = wrapped-claim.held w32 (t.0 -ℤ pos 8)

feedback : (t : TimerCount) → SFits w32 t.0 → SFits w32 (feedback_tick t).0
unfolding feedback_tick
feedback t F = larger-fits t.0 (neg_ℤ (pos 2147483648)) F (record { sfits = omega arith })

operating : (n : OperatingCount) → (operating_step n).0 < 2 ^ 32
unfolding operating_step
operating n = omega arith

operating-time : (t : Operating) → t.count.0 < 2 ^ 32 → (operating_tick t).count.0 < 2 ^ 32
operating-time t h = by-quarters (λ (x : Operating). x.count.0 < 2 ^ 32) t (λ e. operating t.count) (λ e. h)

counter : (n : ℤ) → SFits w32 (counter_step n)
unfolding counter_step
counter n = wrapped-claim.held w32 (n +ℤ pos 1)

pub steps-held : StepsHeld
steps-held =
    record {
      free_run = free-run;
      watchdog = watchdog;
      out_timer_of = out_timer;
      feedback = feedback;
      operating = operating;
      operating_time = operating-time;
      counter = counter;
    }

-- ---- quarters
-- x is t after n ticks, by arithmetic
record Gained (t : Operating) (n : ℕ) (x : Operating) : Type 0 where
  count : t.count.0 ≤ 4294967295 → x.count.0 ≡ min (t.count.0 + (quarters_of t + n) / 4) 4294967295
  quarters : quarters_of x ≡ (quarters_of t + n) % 4

full : (c q n k l : ℕ) → k ≡ min (c + (q + n) / 4) 4294967295 → l ≡ (q + n) % 4 → l ≡ 3 → min (k + 1) 4294967295 ≡ min (c + (q + suc n) / 4) 4294967295
full c q n k l e f g = omega (arith, e, f, g)

full-left : (q n l : ℕ) → l ≡ (q + n) % 4 → l ≡ 3 → 0 ≡ (q + suc n) % 4
full-left q n l f g = omega (arith, f, g)

part : (c q n k l : ℕ) → k ≡ min (c + (q + n) / 4) 4294967295 → l ≡ (q + n) % 4 → l < 3 → k ≡ min (c + (q + suc n) / 4) 4294967295
part c q n k l e f g = omega (arith, e, f, g)

part_left : (q n l : ℕ) → l ≡ (q + n) % 4 → l < 3 → l + 1 ≡ (q + suc n) % 4
part_left q n l f g = omega (arith, f, g)

one_more : (t : Operating) (n : ℕ) (x : Operating) → Gained t n x → Gained t (suc n) (operating_tick x)
unfolding operating_step
one_more t n x h =
    by-quarters (Gained t (suc n)) x
    (λ e. record {
      count = λ f. full t.count.0 (quarters_of t) n x.count.0 (quarters_of x) (h.count f) h.quarters e;
      quarters = full-left (quarters_of t) n (quarters_of x) h.quarters e;
    })
    (λ l. record {
      count = λ f. part t.count.0 (quarters_of t) n x.count.0 (quarters_of x) (h.count f) h.quarters l;
      quarters = in-range (with-quarters x.count (quarters_of x + 1)) (omega (arith, l)) ∙ part_left (quarters_of t) n (quarters_of x) h.quarters l;
    })

none : (c q : ℕ) → c ≤ 4294967295 → q ≤ 3 → c ≡ min (c + (q + 0) / 4) 4294967295
none c q h l = omega (arith, h, l)

none_left : (q : ℕ) → q ≤ 3 → q ≡ (q + 0) % 4
none_left q l = omega (arith, l)

gained : (n : ℕ) (t : Operating) → Gained t n (ran_for n t)
gained zero t = record { count = λ f. none t.count.0 (quarters_of t) f (acting t); quarters = none_left (quarters_of t) (acting t) }
gained (suc n) t = one_more t n (ran_for n t) (gained n t)

pub adds_up : AddsUp
adds_up =
    record {
      count = λ n t. (gained n t).count;
      quarters = λ n t. (gained n t).quarters;
      range = λ t. by-quarters (λ (x : Operating). x.quarters ≤ 3) t (λ e. omega arith) (λ l. omega (arith, l));
      acting = acting;
      within = in-range;
      beyond = out_of_range;
    }
