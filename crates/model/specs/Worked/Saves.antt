-- Worked boxes: the save every ten hours. The proof is in proofs/Worked/Saves.antt.
use Rattle.std.specs.Prelude.{◌≡◌, true, false, [], ◌∷◌, map, ℕ, pos, replicate}
use Rattle.counts.specs.Counts.{timer}
use Rattle.model.specs.declared.Module.{Module}
use Rattle.model.specs.Image.{Entry, Setup}
use Rattle.model.specs.Restored.{powered_up}
use Rattle.model.specs.State.{shared_of, save_ticks_of}
use Rattle.model.specs.Hours.{unset_clock}
use Rattle.model.specs.Tick.{tick_shared}
use Rattle.model.specs.declared.Shared.{Shared}
use Rattle.model.specs.Calls.{tick}
use Rattle.model.specs.Worked.{one, four, past, present, ◌then◌, reads, writes, refused_write, takes, sampled, ticks, Plays, config_of, box_of, entry}
use Rattle.model.specs.Worked.{no_entry}

-- an output whose Counter, operating count and user bytes are kept
abbrev pub kept_entry : Entry
kept_entry =
    let e = entry 0x0010_0000 0 0 in
    record {
      config = e.config;
      fb_preset = e.fb_preset;
      out_preset = e.out_preset;
      min = e.min;
      max = e.max;
      reals = e.reals;
      maintenance = e.maintenance;
      user = four 0x0102_0304;
      counter = pos 5;
      operating = record { 0 = 7 };
    }

-- the watchdog off; an output with kept values
abbrev pub save_box : Module
save_box =
    box_of 0x0010_0000 0
    (kept_entry ∷ replicate 15 no_entry)

-- the same after 1151996 ticks, with every InFlag FALSE till then
abbrev pub late_box : Module
late_box =
    let m = save_box in
    record {
      shared = shared_of (timer (pos 9215968)) (config_of 0x0010_0000) (timer (pos 0)) false 1151996 unset_clock;
      service = m.service;
      channels = m.channels;
      data_channel = m.data_channel;
    }

-- the shared record of a box so many ticks after a save
abbrev pub after_ticks : ℕ → Shared
after_ticks n = shared_of (timer (pos 0)) (config_of 0) (timer (pos 0)) false n unset_clock

pub record Saves : Type 0 where
  -- A tick 7: the 1151999th tick keeps nothing
  pub before_save : Plays late_box
      (takes (sampled 1 true 0) then takes (sampled 2 true 0) then writes 0x15 (four 0x0A0B_0C0D) past then ticks 3 then writes 0x03 (one 0xFF) past
      then reads 0x12 (four 0x0000_0005) past then reads 0x14 (four 0x3F60_0000) past then reads 0x15 (four 0x0102_0304) past
      then reads 0x22 (four 0) past then reads 0x24 (four 0) past)
  -- the 1152000th keeps Counter and the operating count of every channel, after step 5, and no user bytes
  pub save : Plays late_box
      (takes (sampled 1 true 0) then takes (sampled 2 true 0) then writes 0x15 (four 0x0A0B_0C0D) past then ticks 4 then writes 0x03 (one 0xFF) past
      then reads 0x12 (four 0x0000_0006) past then reads 0x14 (four 0x3F80_0000) past then reads 0x15 (four 0x0102_0304) past
      then reads 0x22 (four 0x0000_0001) past then reads 0x24 (four 0x3E00_0000) past)
  -- and the next does not
  pub after_save : Plays late_box
      (takes (sampled 1 true 0) then takes (sampled 2 true 0) then writes 0x15 (four 0x0A0B_0C0D) past then ticks 4 then takes (sampled 1 false 0)
      then takes (sampled 1 true 0) then writes 0x15 (four 0x0A0B_0C0D) present then takes tick then reads 0x12 (four 0x0000_0007) present
      then writes 0x03 (one 0xFF) past then reads 0x12 (four 0x0000_0006) past then reads 0x14 (four 0x3F80_0000) past
      then reads 0x15 (four 0x0102_0304) past then reads 0x22 (four 0x0000_0001) past then reads 0x24 (four 0x3E00_0000) past)
  -- Change 2, 2: a save keeps no quarters, and takes none: two before it and two after it make an eighth, of which a reset gives none
  pub quarters : Plays late_box
      (ticks 2 then takes (sampled 1 true 0) then takes (sampled 2 true 0) then ticks 2 then reads 0x14 (four 0x3F60_0000) present then ticks 2
      then reads 0x14 (four 0x3F80_0000) present then reads 0x24 (four 0x3E00_0000) present then writes 0x03 (one 0xFF) past
      then reads 0x14 (four 0x3F60_0000) past then reads 0x24 (four 0) past)
  -- a write of WriteEnable, refused or not, leaves the count
  pub enable_between : Plays late_box
      (takes (sampled 1 true 0) then takes (sampled 2 true 0) then writes 0x15 (four 0x0A0B_0C0D) past then writes 0x0D (one 0x01) past
      then refused_write 7 0x0D (one 0x02) past then writes 0x0D (one 0x00) past then ticks 4 then writes 0x03 (one 0xFF) past
      then reads 0x12 (four 0x0000_0006) past then reads 0x14 (four 0x3F80_0000) past then reads 0x15 (four 0x0102_0304) past
      then reads 0x22 (four 0x0000_0001) past then reads 0x24 (four 0x3E00_0000) past)
  -- the count is 0 at power-up, one more at each tick, and 0 again after a save; past 1151999 it saves too
  pub starts : (s : Setup) → save_ticks_of (powered_up s).shared ≡ 0
  pub counts : map (λ n. save_ticks_of (tick_shared (after_ticks n))) (0 ∷ 1151998 ∷ 1151999 ∷ 1152000 ∷ 4294967295 ∷ []) ≡ 1 ∷ 1151999 ∷ 0 ∷ 0 ∷ 0 ∷ []
