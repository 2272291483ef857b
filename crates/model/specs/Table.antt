-- Document 01, The proved table: all rows as one fact about the rules, each through calls on a whole box. The proof is in proofs/Table.antt.
use Rattle.std.specs.Prelude.{◌≡◌, Bool, true, false, List, [], ◌∷◌, ℕ, zero, suc, ℤ, pos, neg_ℤ, replicate}
use Rattle.counts.specs.declared.TimerCount.{TimerCount}
use Rattle.counts.specs.Counts.{timer}
use Rattle.model.specs.declared.Channel.{Channel}
use Rattle.model.specs.declared.Module.{Module}
use Rattle.model.specs.State.{config, channel_at, put_channel, out_timer_of, fb_timer_of, set_out_timer}
use Rattle.model.specs.Settings.{output}
use Rattle.model.specs.Image.{Entry, entry_size, entry_from}
use Rattle.model.specs.Restored.{powered_up}
use Rattle.model.specs.Lookup.{zero as realZero}
use Rattle.model.specs.Images.{zero_data}
use Rattle.model.specs.Calls.{Request, read, write, tick, step, run}

-- settings: the watchdog off; channel 1 with these Functions and this OutPreset, the other channels all zero
abbrev pub no_entry : Entry
no_entry = entry_from (replicate entry_size 0)

abbrev pub first_entry : ℕ → ℕ → Entry
first_entry functions preset =
    record {
      config = config 0 functions 0 0;
      fb_preset = timer (pos 0);
      out_preset = timer (pos preset);
      min = realZero;
      max = realZero;
      reals = replicate 8 0;
      maintenance = replicate 4 0;
      user = replicate 4 0;
      counter = pos 0;
      operating = record { 0 = 0 };
    }

abbrev pub box_with : ℕ → ℕ → Module
box_with functions preset =
    powered_up
    (record {
      module_config = config 0 0x10 0 0;
      wd_preset = timer (pos 0);
      entries = first_entry functions preset ∷ replicate 15 no_entry;
      data_kept = zero_data;
    })

-- a write of these bytes to OutTimer of channel 1: its number, and the count that it leaves
abbrev pub writes : ℕ → ℕ → ℕ → ℕ → ℕ
writes a b c d = (step (box_with 0x10 0) (write 0x11 (a ∷ b ∷ c ∷ d ∷ []))).answer.number

abbrev pub counts : ℕ → ℕ → ℕ → ℕ → TimerCount
counts a b c d = out_timer_of (channel_at (step (box_with 0x10 0) (write 0x11 (a ∷ b ∷ c ∷ d ∷ []))).box 1)

-- a read of OutTimer of channel 1 where it has this count: the buffer of four bytes afterwards
abbrev pub reads : ℤ → List ℕ
reads z = let m = box_with 0x10 0 in (step (put_channel 1 (set_out_timer (timer z) (channel_at m 1)) m) (read 0x11 (replicate 4 0))).answer.buffer

abbrev pub ticks : ℕ → List Request
ticks zero = []
ticks (suc n) = tick ∷ ticks n

-- Control written, then n ticks: channel 1's Output
abbrev pub on_after : ℕ → ℕ → ℕ → Bool
on_after functions preset n = output (channel_at (run (box_with functions preset) (write 0x10 (0x08 ∷ []) ∷ ticks n)) 1)

-- $CB000000 written to OutTimer and FBTimer, then a tick
abbrev pub from_the_lowest : Channel
from_the_lowest = channel_at (run (box_with 0x10 0) (write 0x11 (0xCB ∷ 0 ∷ 0 ∷ 0 ∷ []) ∷ write 0x16 (0xCB ∷ 0 ∷ 0 ∷ 0 ∷ []) ∷ tick ∷ [])) 1

pub record ProvedTable : Type 0 where
  pub row1 : counts 0x3F 0x80 0 0 ≡ timer (pos 256)
  pub row2 : counts 0x3B 0x80 0 0 ≡ timer (pos 1)
  pub row3 : reads (neg_ℤ (pos 1)) ≡ 0xBB ∷ 0x80 ∷ 0 ∷ 0 ∷ []
  pub row4 : reads (pos 2147483520) ≡ 0x4A ∷ 0xFF ∷ 0xFF ∷ 0xFF ∷ []
  pub row5 : reads (pos 2147483584) ≡ 0x4B ∷ 0 ∷ 0 ∷ 0 ∷ []
  pub row6 : writes 0x4B 0 0 0 ≡ 7
  pub row7 : counts 0xCB 0 0 0 ≡ timer (neg_ℤ (pos 2147483648))
  pub row8_out : out_timer_of from_the_lowest ≡ timer (pos 2147483640)
  pub row8_feedback : fb_timer_of from_the_lowest ≡ timer (neg_ℤ (pos 2147483648))
  pub row9_1 : on_after 0x20 16 1 ≡ true
  pub row9_2 : on_after 0x20 16 2 ≡ true
  pub row9_3 : on_after 0x20 16 3 ≡ false
  pub row10_1 : on_after 0x30 16 1 ≡ true
  pub row10_2 : on_after 0x30 16 2 ≡ true
  pub row10_3 : on_after 0x30 16 3 ≡ false
  pub row10_5 : on_after 0x30 16 5 ≡ true
  pub row11_1 : on_after 0x30 0 1 ≡ false
  pub row11_2 : on_after 0x30 0 2 ≡ true
