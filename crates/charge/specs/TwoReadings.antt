-- What a reader may rely on in the charge of two readings of a box. A reading shows Counter and changes nothing but the watchdog; two readings charge for what Counter
-- has moved between them. The proofs are in proofs/TwoReadings.antt.
use Rattle.std.specs.Prelude.{◌≡◌, true, false, ℕ, pos, length, Float}
use Rattle.std.specs.Float.Ieee.Scale.{finite}
use Rattle.model.specs.declared.Module.{Module}
use Rattle.model.specs.State.{channel_at, in_flag_of}
use Rattle.model.specs.Settings.{is_digital, simulates_input}
use Rattle.model.specs.Calls.{sample, step, cleared, watchdog_preset}
use Rattle.charge.specs.declared.Tariff.{Tariff}
use Rattle.charge.specs.Charge.{pulses, charged}
use Rattle.charge.specs.Readings.{reading}

pub record TwoReadings : Type 0 where
  -- a reading of a channel is done
  pub done : (m : Module) (k : ℕ) → is_digital k ≡ true → (reading m k).number ≡ 0
  -- and leaves the box as every wire call does, and no more
  pub box : (m : Module) (k : ℕ) → is_digital k ≡ true → (reading m k).after ≡ watchdog_preset (cleared m)
  -- where there is no channel k the number is 8, and the box is not called
  pub no_channel_lem : (m : Module) (k : ℕ) → is_digital k ≡ false → reading m k ≡ record { after = m; number = 8; counter = pos 0 }
  -- one reading right after another charges nothing
  pub again : (m : Module) (k n : ℕ) (t : Tariff) → is_digital k ≡ true
      → (charged (reading m k).counter (reading (reading m k).after k).counter n t).cents ≡ 0
  -- with one rise of the level between them there is one pulse, also where Counter goes round
  pub rise : (m : Module) (k : ℕ) (x : Float) → length m.channels ≡ 16 → is_digital k ≡ true → finite x ≡ true
      → simulates_input (channel_at m k) ≡ false → in_flag_of (channel_at m k) ≡ false
      → pulses (reading m k).counter (reading (step (reading m k).after (sample k true x)).box k).counter ≡ 1
