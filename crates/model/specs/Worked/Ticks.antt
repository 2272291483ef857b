-- Worked boxes: ticks. The proof is in proofs/Worked/Ticks.antt.
use Rattle.std.specs.Prelude.{true, false, [], ◌∷◌, ◌++◌, map, ℕ, replicate}
use Rattle.model.specs.declared.Module.{Module}
use Rattle.model.specs.Image.{Entry}
use Rattle.model.specs.Calls.{tick}
use Rattle.model.specs.Worked.{one, two, four, words, past, present, ◌then◌, reads, writes, takes, sampled, ticks, bytes_from, words_from}
use Rattle.model.specs.Worked.{Plays, box_of, limited, entry, no_entry}

-- an input whose operating count is two below its end
abbrev pub late_entry : Entry
late_entry =
    let e = no_entry in
    record {
      config = e.config;
      fb_preset = e.fb_preset;
      out_preset = e.out_preset;
      min = e.min;
      max = e.max;
      reals = e.reals;
      maintenance = e.maintenance;
      user = e.user;
      counter = e.counter;
      operating = record { 0 = 0xFFFF_FFFE };
    }

-- outputs with FBPreset 40 and each way to name channels 14 and 15 as feedback, 11 to 13 with it simulated; 16 with simulated input; the watchdog off
abbrev pub with_feedback : ℕ → Entry
with_feedback g = entry g 40 0

abbrev pub feedback_box : Module
feedback_box =
    box_of 0x0010_0000 0
    (map with_feedback
    (0x0010_0F00 ∷ 0x0010_0F00 ∷ 0x0010_0E00 ∷ 0x0010_0E00 ∷ 0x0010_000F ∷ 0x0010_000F ∷ 0x0010_000E ∷ 0x0010_000E ∷ 0x0010_0F0E ∷ 0x0010_0F0E ∷
    0x0410_0E0F ∷ 0x0410_0E00 ∷ 0x0410_0000 ∷ [])
    ++ (no_entry ∷ late_entry ∷ with_feedback 0x0110_100F ∷ []))

-- MinCurrent 0.5 A and MaxCurrent 0.75 A; FBPreset 4, but 1000 on 5 and 12; Enablebit 5 on 1, 3, 5 and 14, all but 5 and 7 on 2, 0 on 7 and 8, 6 on 11
abbrev pub with_limits : ℕ → Entry
with_limits g = limited g 4 0 0x3F00_0000 0x3F40_0000

abbrev pub late : ℕ → Entry
late g = limited g 1000 0 0x3F00_0000 0x3F40_0000

abbrev pub error_box : Module
error_box =
    box_of 0x0010_0000 0
    (map with_limits (0x2010_0000 ∷ 0x5F10_0000 ∷ 0x2010_0000 ∷ 0x0000_0000 ∷ [])
    ++ (late 0x2010_0000
    ∷ (map with_limits (0x0000_0000 ∷ 0x0110_0000 ∷ 0x0110_0000 ∷ 0x0010_0000 ∷ 0x0010_0000 ∷ 0x4010_0000 ∷ [])
    ++ (late 0x0010_0000 ∷ map with_limits (0x0010_0000 ∷ 0x2020_0000 ∷ 0x0010_0000 ∷ 0x0010_0000 ∷ [])))))

-- one-shots 1, 2, 7 and 10, duty cycles 3, 4 and 8, timers 5 and 9, an output 6
abbrev pub function_box : Module
function_box =
    box_of 0x0010_0000 0
    (entry 0x0020_1000 100 20 ∷ entry 0x0020_0000 100 0 ∷ entry 0x0030_1000 100 12 ∷ entry 0x0030_0000 100 0 ∷ entry 0x0050_0000 100 20 ∷ entry
    0x0010_0000 100 20 ∷ entry 0x0020_0000 100 100 ∷ entry 0x0030_0000 100 100 ∷ entry 0x0050_0000 100 100 ∷ entry 0x0020_0000 100 40 ∷ replicate 6
    no_entry)

-- the watchdog on, WDPreset 20; an output, a one-shot, an input and a duty cycle
abbrev pub watchdog_box : Module
watchdog_box =
    box_of 0x0000_0000 20
    (entry 0x0010_0500 1000 0 ∷ entry 0x0020_0000 1000 1000 ∷ entry 0x0000_0000 1000 0 ∷ entry 0x0030_0000 1000 1000 ∷ replicate 12 no_entry)

-- an output with FBPreset 40; the watchdog off
abbrev pub trip_box : Module
trip_box = box_of 0x0010_0000 0 (entry 0x0010_0000 40 0 ∷ replicate 15 no_entry)

pub record Ticks : Type 0 where
  -- A tick 4: above 2 A the tick trips an output that was put on again, while FBTimer still runs, and the change rule starts FBTimer anew
  pub trips : Plays trip_box
      (takes (sampled 1 false 0x4040_0000) then writes 0x10 (one 0x80) past then reads 0x10 (one 0x80) past then takes tick then reads 0x10 (one 0x02) present
      then reads 0x16 (four 0x3E20_0000) present then reads 0x1F (four 0x4800_4800) present)
  -- A tick 5: the looks at ticks 4 and 8, channels 1 to 16 with each sense of A and B, output on and off, simulated or not; FBTimer and bit 1; operating
  --  time of channels that are on for eight ticks and for two
  pub feedback : Plays feedback_box
      (takes (sampled 15 true 0) then writes 0x20 (one 0x80) past then writes 0x40 (one 0x80) past then writes 0x60 (one 0x80) past
      then writes 0x80 (one 0x80) past then writes 0x90 (one 0x80) past then writes 0xB0 (one 0x80) past then writes 0xD0 (one 0x80) past
      then writes 0x100 (one 0xC0) past then bytes_from 0x10 16 past (0x20 ∷ 0xA4 ∷ 0x00 ∷ 0x84 ∷ 0x10 ∷ 0x94 ∷ 0x00 ∷ 0x84 ∷ 0xA4 ∷ 0x20 ∷ 0xA4 ∷
      0x10 ∷ 0xA0 ∷ 0x00 ∷ 0x40 ∷ 0xF4 ∷ []) then ticks 3 then bytes_from 0x10 16 present (0x20 ∷ 0xA6 ∷ 0x00 ∷ 0x86 ∷ 0x10 ∷ 0x96 ∷ 0x00 ∷ 0x86 ∷
      0xA6 ∷ 0x20 ∷ 0xA6 ∷ 0x10 ∷ 0xA2 ∷ 0x00 ∷ 0x40 ∷ 0xF4 ∷ []) then reads 0xF4 (four 0x4E00_0000) present then reads 0x104 (four 0) present
      then takes tick then bytes_from 0x10 16 present (0x26 ∷ 0xA2 ∷ 0x00 ∷ 0x86 ∷ 0x10 ∷ 0x96 ∷ 0x06 ∷ 0x82 ∷ 0xA2 ∷ 0x26 ∷ 0xA2 ∷ 0x10 ∷ 0xA2 ∷
      0x00 ∷ 0x40 ∷ 0xF4 ∷ []) then reads 0xF4 (four 0x4E00_0000) present then reads 0x104 (four 0x3E00_0000) present
      then reads 0xE4 (four 0) present then ticks 2 then words_from 0x1F 16 present (0x0200_0200 ∷ 0x0400_0400 ∷ 0 ∷ 0x0600_0600 ∷ 0 ∷ 0x0600_0600 ∷
      0x0200_0200 ∷ 0x0400_0400 ∷ 0x0400_0400 ∷ 0x0200_0200 ∷ 0x0400_0400 ∷ 0 ∷ 0x0400_0400 ∷ 0 ∷ 0 ∷ 0x0200_0200 ∷ []) then takes (sampled 15 false 0)
      then takes (sampled 14 true 0) then ticks 2 then bytes_from 0x10 16 present (0x00 ∷ 0x86 ∷ 0x26 ∷ 0xA2 ∷ 0x06 ∷ 0x82 ∷ 0x10 ∷ 0x96 ∷ 0x96 ∷ 0x10 ∷
      0xA2 ∷ 0x10 ∷ 0xA2 ∷ 0x40 ∷ 0x00 ∷ 0xE0 ∷ []) then words_from 0x16 16 present (0xBE80_0000 ∷ 0xBDC0_0000 ∷ 0xBE80_0000 ∷ 0xBDC0_0000 ∷
      0xBE80_0000 ∷ 0xBDC0_0000 ∷ 0xBE80_0000 ∷ 0xBDC0_0000 ∷ 0xBDC0_0000 ∷ 0xBE80_0000 ∷ 0xBDC0_0000 ∷ 0xBE80_0000 ∷ 0xBDC0_0000 ∷ 0xBE80_0000 ∷
      0xBE80_0000 ∷ 0xBDC0_0000 ∷ []) then reads 0xF4 (four 0x4E00_0000) present then reads 0x104 (four 0x3E80_0000) present
      then reads 0xE4 (four 0) present then reads 0x07 (four 0x0000_0040) present)
  -- A tick 4 and 6: the trip in a tick, above MaxCurrent and not at it, silenced and not, late and early; each Act bit with what silences it; His after
  --  an acknowledgement
  pub errors : Plays error_box
      (takes (sampled 1 true 0x3E80_0000) then takes (sampled 2 false 0x3E80_0000) then takes (sampled 3 true 0) then takes (sampled 4 true 0x3DCC_CCCD)
      then takes (sampled 5 true 0x3E80_0000) then takes (sampled 6 false 0x3DCC_CCCE) then takes (sampled 7 true 0x3E80_0000)
      then takes (sampled 9 true 0x3F40_0000) then takes (sampled 10 true 0x3F40_0001) then takes (sampled 11 false 0x3F40_0001)
      then takes (sampled 12 true 0x3F40_0001) then takes (sampled 13 false 0x3F40_0001) then takes (sampled 14 true 0x3F00_0000)
      then takes (sampled 16 false 0x4040_0000) then takes (sampled 16 false 0x3F19_999A) then writes 0x10 (one 0x80) present then writes 0x20 (one 0x80) present
      then writes 0x50 (one 0x80) present then writes 0x80 (one 0x80) present then writes 0x90 (one 0x80) present
      then writes 0xA0 (one 0x80) present then writes 0xB0 (one 0x80) present then writes 0xC0 (one 0x80) present
      then writes 0xE0 (one 0x80) present then writes 0x70 (one 0x40) present then writes 0x110 (two 0xAF93) present
      then writes 0xF0 (one 0x08) present then takes tick then words_from 0x1F 16 present (0x2000_2000 ∷ 0 ∷ 0x1000_1000 ∷ 0 ∷ 0 ∷ 0x0800_0800 ∷ 0 ∷
      0 ∷ 0 ∷ 0x5800_5800 ∷ 0x0800_0800 ∷ 0 ∷ 0x0800_0800 ∷ 0 ∷ 0x0100_0100 ∷ 0x4000_4000 ∷ []) then bytes_from 0x10 16 present (0xC2 ∷ 0xA0 ∷ 0x42 ∷
      0x40 ∷ 0xC0 ∷ 0x02 ∷ 0x40 ∷ 0x80 ∷ 0xC0 ∷ 0x42 ∷ 0x02 ∷ 0xC0 ∷ 0x02 ∷ 0xC0 ∷ 0x02 ∷ 0x82 ∷ []) then words_from 0x16 16 present (0xBC80_0000 ∷
      0xBC80_0000 ∷ 0xBD00_0000 ∷ 0xBD00_0000 ∷ 0x4078_0000 ∷ 0xBD00_0000 ∷ 0xBD00_0000 ∷ 0xBC80_0000 ∷ 0xBC80_0000 ∷ 0x3C80_0000 ∷ 0x3C80_0000 ∷
      0x4078_0000 ∷ 0xBD00_0000 ∷ 0xBC80_0000 ∷ 0xBD00_0000 ∷ 0xBD00_0000 ∷ []) then takes tick then words_from 0x1F 16 present (0x2000_2000 ∷ 0 ∷
      0x1000_1000 ∷ 0 ∷ 0 ∷ 0x0800_0800 ∷ 0 ∷ 0 ∷ 0 ∷ 0x5800_5800 ∷ 0x0800_0800 ∷ 0 ∷ 0x0800_0800 ∷ 0 ∷ 0x0100_0100 ∷ 0x4000_4000 ∷ [])
      then reads 0x112 (four 0xD625_D625) present then reads 0x0F (words (0x8100_0100 ∷ 0x4AAC_0300 ∷ 0x4AAC_0300 ∷ [])) present)
  -- A tick 2 and 3: the special functions tick by tick, one-shot, duty cycle and timer, with Control dropped at the third and a trip between ticks; the
  --  change rule
  pub functions : Plays function_box
      (writes 0x10 (one 0x08) past then writes 0x20 (one 0x08) past then writes 0x30 (one 0x08) past then writes 0x40 (one 0x08) past
      then writes 0x70 (one 0x08) past then writes 0x80 (one 0x08) past then writes 0xA0 (one 0x08) past then writes 0x50 (one 0x08) past
      then writes 0x51 (four 0x3D80_0000) past then writes 0x61 (four 0x3D80_0000) past then writes 0x60 (one 0x80) past
      then writes 0x90 (one 0x88) past then writes 0x91 (four 0x3F80_0000) past then takes tick
      then bytes_from 0x10 16 present (0x8E ∷ 0x08 ∷ 0x8E ∷ 0x08 ∷ 0x8A ∷ 0x82 ∷ 0x8A ∷ 0x8A ∷ 0x8A ∷ 0x8A ∷ []) then words_from 0x11 16 present
      (0x3DA0_0000 ∷ 0 ∷ 0x3D40_0000 ∷ 0 ∷ 0x3D00_0000 ∷ 0x3D00_0000 ∷ 0x3EC8_0000 ∷ 0x3EC8_0000 ∷ 0x3F78_0000 ∷ 0x3E20_0000 ∷ []) then takes tick
      then bytes_from 0x10 16 present (0x8E ∷ 0x08 ∷ 0x8E ∷ 0x8A ∷ 0x08 ∷ 0x82 ∷ 0x8A ∷ 0x8A ∷ 0x8A ∷ 0x8A ∷ []) then words_from 0x11 16 present
      (0x3D40_0000 ∷ 0xBD00_0000 ∷ 0x3C80_0000 ∷ 0 ∷ 0 ∷ 0 ∷ 0x3EB8_0000 ∷ 0x3EB8_0000 ∷ 0x3F70_0000 ∷ 0x3E00_0000 ∷ [])
      then writes 0x70 (one 0x80) present then writes 0x80 (one 0x80) present then writes 0x90 (one 0x80) present
      then takes (sampled 10 false 0x4040_0000) then takes (sampled 10 false 0x0000_0000) then writes 0xA0 (one 0x08) present then takes tick
      then bytes_from 0x10 16 present (0x8E ∷ 0x08 ∷ 0x0C ∷ 0x08 ∷ 0x08 ∷ 0x82 ∷ 0x00 ∷ 0x00 ∷ 0x00 ∷ 0x8A ∷ []) then words_from 0x11 16 present
      (0x3C80_0000 ∷ 0xBD80_0000 ∷ 0x3D40_0000 ∷ 0 ∷ 0xBD00_0000 ∷ 0xBD00_0000 ∷ 0x3EA8_0000 ∷ 0x3EA8_0000 ∷ 0x3F68_0000 ∷ 0x3DC0_0000 ∷ []) then
      words_from 0x16 16 present (0x3EA8_0000 ∷ 0xBDC0_0000 ∷ 0x3EC8_0000 ∷ 0x3EC8_0000 ∷ 0x3EB8_0000 ∷ 0x3E98_0000 ∷ 0x3EC8_0000 ∷ 0x3EC8_0000 ∷
      0x3EC8_0000 ∷ 0x3EC8_0000 ∷ []) then ticks 2
      then bytes_from 0x10 16 present (0x08 ∷ 0x08 ∷ 0x8E ∷ 0x08 ∷ 0x08 ∷ 0x82 ∷ 0x00 ∷ 0x00 ∷ 0x00 ∷ 0x8A ∷ []) then words_from 0x11 16 present
      (0xBD40_0000 ∷ 0xBE00_0000 ∷ 0x3D40_0000 ∷ 0 ∷ 0xBDC0_0000 ∷ 0xBDC0_0000 ∷ 0x3E88_0000 ∷ 0x3E88_0000 ∷ 0x3F58_0000 ∷ 0x3D00_0000 ∷ []))
  -- A tick 1 and Calls 4: WDTimer runs out at the third tick after a wire call, and clears every OutFlag and Control; His bit 3; a preset in time, by
  -- wire calls alone; the watchdog off
  pub watchdog : Plays watchdog_box
      (writes 0x10 (one 0x80) past then writes 0x20 (one 0x88) past then writes 0x40 (one 0x88) past
      then reads 0x0F (words (0x8000_0000 ∷ 0 ∷ 0 ∷ [])) past then ticks 2 then reads 0x08 (four 0x3C80_0000) present
      then reads 0x110 (two 0x000B) present then takes tick then takes (sampled 3 false 0) then ticks 2
      then reads 0x0F (words (0x0900_0000 ∷ 0x1600_0200 ∷ 0 ∷ [])) past then reads 0x0F (words (0x0100_0000 ∷ 0x1600_0200 ∷ 0 ∷ [])) past
      then reads 0x110 (two 0) past then bytes_from 0x10 16 past (0x04 ∷ 0x00 ∷ 0x00 ∷ 0x00 ∷ [])
      then words_from 0x16 16 past (0x407A_0000 ∷ 0x407A_0000 ∷ 0xBE20_0000 ∷ 0x407A_0000 ∷ [])
      then words_from 0x11 16 past (0xBE20_0000 ∷ 0x4072_0000 ∷ 0xBE20_0000 ∷ 0x4072_0000 ∷ []) then reads 0x08 (four 0x3DA0_0000) past
      then writes 0x10 (one 0x80) past then writes 0x0D (one 0x01) past then writes 0x09 (four 0x0010_0000) past then ticks 4
      then reads 0x08 (four 0) present then reads 0x110 (two 0x0001) present
      then reads 0x0F (words (0x0100_0100 ∷ 0x1600_0200 ∷ 0x0200_0200 ∷ [])) present then reads 0x07 (four 0x0000_0048) present
      then writes 0x09 (four 0) present then ticks 3 then writes 0x16 (four 0x3F80_0000) past
      then reads 0x0F (words (0x0900_0000 ∷ 0x1600_0200 ∷ 0 ∷ [])) past)
