-- What a reader may rely on in the definitions of this crate. The proofs are in proofs/Claims.antt.
use Rattle.std.specs.Prelude.{◌≡◌, ℕ, zero, suc, ◌+◌, ◌/◌, ◌%◌, ◌^◌, ◌<◌, ◌≤◌, min, ℤ}
use Rattle.std.specs.Int.{w32}
use Rattle.std.proofs.Common.{SFits}
use Rattle.counts.specs.declared.TimerCount.{TimerCount}
use Rattle.counts.specs.declared.OperatingCount.{OperatingCount}
use Rattle.counts.specs.declared.Operating.{Operating}
use Rattle.counts.specs.Counts.{free_run_tick, watchdog_tick, out_timer_tick, feedback_tick, operating_step, counter_step}
use Rattle.counts.specs.Counts.{quarters_of, operating_tick}

-- A step leaves a count in its 32 bits. `SFits w32 z` says that z is from −2147483648 to 2147483647.
pub record StepsHeld : Type 0 where
  pub free_run : (t : TimerCount) → SFits w32 (free_run_tick t).0
  pub watchdog : (t : TimerCount) → SFits w32 t.0 → SFits w32 (watchdog_tick t).0
  pub out_timer_of : (t : TimerCount) → SFits w32 (out_timer_tick t).0
  pub feedback : (t : TimerCount) → SFits w32 t.0 → SFits w32 (feedback_tick t).0
  pub operating : (n : OperatingCount) → (operating_step n).0 < 2 ^ 32
  pub operating_time : (t : Operating) → t.count.0 < 2 ^ 32 → (operating_tick t).count.0 < 2 ^ 32
  pub counter : (n : ℤ) → SFits w32 (counter_step n)

-- an operating time after n more quarters
abbrev pub ran_for : ℕ → Operating → Operating
ran_for zero t = t
ran_for (suc n) t = operating_tick (ran_for n t)

-- Change 2, 2: any four of them make one of the count, from any quarters and as far as the count does not stop
pub record AddsUp : Type 0 where
  pub count : (n : ℕ) (t : Operating) → t.count.0 ≤ 4294967295 → (ran_for n t).count.0 ≡ min (t.count.0 + (quarters_of t + n) / 4) 4294967295
  pub quarters : (n : ℕ) (t : Operating) → quarters_of (ran_for n t) ≡ (quarters_of t + n) % 4
  -- after a tick there are 0 to 3
  pub range : (t : Operating) → (operating_tick t).quarters ≤ 3
  -- Change 1, 9: which quarters act as what
  pub acting : (t : Operating) → quarters_of t ≤ 3
  pub within : (t : Operating) → t.quarters ≤ 3 → quarters_of t ≡ t.quarters
  pub beyond : (t : Operating) → 3 < t.quarters → quarters_of t ≡ 0
