-- An example that meets every hypothesis of `TwoLists`, so that the claim is not an empty one: c is channel 1, the image names channel 2 as its Ref_A,
-- an accepted write of ChConfig names channel 4 as its Ref_B too, and channel 3 is a stranger. proofs/Example.antt computes each fact.
use Rattle.std.specs.Prelude.{◌≡◌, true, false, List, [], ◌∷◌, ◌++◌, ℕ, pos, replicate}
use Rattle.std.specs.Float.{binary32}
use Rattle.std.specs.Float.Ieee.{of_int}
use Rattle.counts.specs.Counts.{timer}
use Rattle.model.specs.declared.Module.{Module}
use Rattle.model.specs.State.{config, channel_at, in_flag_of}
use Rattle.model.specs.Hours.{window}
use Rattle.model.specs.Settings.{output}
use Rattle.model.specs.Image.{Entry, Setup, entry_size, entry_from, data_size, kept_from, encode}
use Rattle.model.specs.Calls.{Request, read, write, sample, minute, windows, tick, run, power_up, power_up_answer}
use Rattle.model.specs.TwoLists.{all_named, struck, marks}

-- settings of a channel: an output with this Ref_A and a MaxCurrent of 1, all else zero
abbrev pub output_with : ℕ → Entry
output_with a =
    record {
      config = config 0 0x10 a 0;
      fb_preset = timer (pos 0);
      out_preset = timer (pos 0);
      min = of_int binary32 (pos 0);
      max = of_int binary32 (pos 1);
      reals = replicate 8 0;
      maintenance = replicate 4 0;
      user = replicate 4 0;
      counter = pos 0;
      operating = record { 0 = 0 };
    }

-- the watchdog on with a WDPreset of one second; channel 1 an output with the feedback input 2, channel 3 an output
abbrev pub setup : Setup
setup =
    record {
      module_config = config 0 0 0 0;
      wd_preset = timer (pos 256);
      entries = output_with 2 ∷ entry_from (replicate entry_size 0) ∷ output_with 0 ∷ replicate 13 (entry_from (replicate entry_size 0));
      data_kept = kept_from (replicate data_size 0);
    }

unfoldable pub image : List ℕ
image = encode setup

-- WriteEnable, then channel 1 on, and its feedback input rises; the minute of the week, and windows of channel 1 that are open then
abbrev pub opening : List Request
opening =
    write 0x0D (1 ∷ []) ∷ write 0x10 (0x80 ∷ []) ∷ sample 2 true (of_int binary32 (pos 0)) ∷ minute 300 ∷ windows 1 (window 0 600 ∷ []) ∷ []

-- ChConfig of channel 1 anew, with Ref_B 4, and channel 1 on again, with its FlagReg read back
abbrev pub middle : List Request
middle = write 0x19 (0 ∷ 0x10 ∷ 2 ∷ 4 ∷ []) ∷ write 0x10 (0x80 ∷ []) ∷ read 0x10 (0xA5 ∷ 0xA5 ∷ []) ∷ []

-- calls for channel 3: three that are accepted, a write, a sample and windows that are open, and a read whose buffer is too short
abbrev pub strangers_first : List Request
strangers_first = write 0x30 (0x80 ∷ []) ∷ sample 3 true (of_int binary32 (pos 1)) ∷ windows 3 (window 200 400 ∷ []) ∷ read 0x3F [] ∷ []

-- other calls for it: a write of two bytes where one is due, windows that are not open, nine windows, a sample, and a write that the next tick undoes
abbrev pub strangers_second : List Request
strangers_second =
    write 0x30 (0 ∷ 0 ∷ []) ∷ windows 3 (window 400 200 ∷ []) ∷ windows 3 (replicate 9 0) ∷ sample 3 true (of_int binary32 (pos 1)) ∷ write 0x30 (0x80 ∷ []) ∷ []

unfoldable pub first : List Request
first = opening ++ (tick ∷ (strangers_first ++ (middle ++ (tick ∷ tick ∷ []))))

unfoldable pub second : List Request
second = opening ++ (tick ∷ (middle ++ (strangers_second ++ (tick ∷ sample 3 false (of_int binary32 (pos 0)) ∷ tick ∷ []))))

abbrev pub start : Module
start = power_up image

pub record Example : Type 0 where
  -- the hypotheses
  pub accepts : (power_up_answer image).number ≡ 0
  pub strikes : struck 1 (all_named 1 start first second) first ≡ struck 1 (all_named 1 start first second) second
  pub agrees : marks false first ≡ marks false second
  -- and what makes it one that says something
  pub naming : all_named 1 start first second ≡ 2 ∷ 2 ∷ 4 ∷ 2 ∷ 4 ∷ []
  pub marked : marks false first ≡ true ∷ true ∷ false ∷ []
  pub on : output (channel_at (run start first) 1) ≡ true
  pub before : in_flag_of (channel_at start 2) ≡ false
  pub after : in_flag_of (channel_at (run start first) 2) ≡ true
  pub stranger_on : output (channel_at (run start first) 3) ≡ true
  pub stranger_off : output (channel_at (run start second) 3) ≡ false
