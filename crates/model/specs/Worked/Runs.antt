-- Worked boxes: short runs, which add up (document 02, Change 2). The proof is in proofs/Worked/Runs.antt.
use Rattle.std.specs.Prelude.{◌≡◌, true, false, List, [], ◌∷◌, map, ℕ, replicate}
use Rattle.std.specs.Float.{binary32}
use Rattle.std.specs.Float.Ieee.{of_bits}
use Rattle.counts.specs.declared.Operating.{Operating}
use Rattle.model.specs.declared.Module.{Module}
use Rattle.model.specs.State.{channel_at, put_channel, with_operating}
use Rattle.model.specs.Calls.{look_up}
use Rattle.model.specs.Runs.{ticks_on, gives}
use Rattle.model.specs.Worked.{Case, one, two, four, calm, past, ◌then◌, reads, writes, refused_write, refused_read, takes, refuses, sampled, ticks, call_in, Plays, box_of}
use Rattle.model.specs.Worked.{entry, no_entry}

-- the watchdog off; inputs, of which channel 2 is simulated
abbrev pub run_box : Module
run_box = box_of 0x0010_0000 0 (no_entry ∷ entry 0x0100_0000 0 0 ∷ replicate 14 no_entry)

-- channel 1 is on for n ticks
abbrev pub on_for : ℕ → List Case
on_for n = takes (sampled 1 true 0) then ticks n then takes (sampled 1 false 0)

-- its OperatingTime, a Real: 0x3E00_0000 is 1/8 s, 0x3F80_0000 is 1 s
abbrev pub shows : ℕ → List Case
shows word = reads 0x14 (four word) past

-- the same box with this operating time on channel 1, which no call may be able to give
abbrev pub box_with_time : Operating → Module
box_with_time t = put_channel 1 (with_operating t (channel_at run_box 1)) run_box

-- three ticks with channel 1 on, then refused writes, a read and a lookup, then a fourth tick
abbrev pub refusals : List Case
refusals =
    on_for 3 then refused_write 4 0x14 (two 0x3F80) past then refused_write 7 0x14 (four 0xBF80_0000) past then refused_write 7 0x14 (four 0x7F80_0000) past
    then refused_write 7 0x03 (one 0x00) past then refused_read 5 0x14 3 past then refuses 15 (look_up 3 (of_bits binary32 0)) then on_for 1 then shows 0x3E00_0000

-- the same with writes of FlagReg, Counter, user bytes, ChConfig, OutFlags and InFlags, of another channel's OperatingTime and of CommonError, a sample
-- that trips and one that does not
abbrev pub others : List Case
others =
    on_for 3 then writes 0x10 (one 0x00) past then writes 0x12 (four 7) past then writes 0x15 (four 7) past then writes 0x0D (one 0x01) past
    then writes 0x12 (four 7) past then writes 0x19 (four 0) past then writes 0x110 (two 0) past then writes 0x111 (two 0) past
    then writes 0x24 (four 0x3F80_0000) past then takes (sampled 1 false 0x4040_0000) then takes (sampled 1 false 0)
    then writes 0x10 (one 0x00) past then writes 0x0F (replicate 12 0) calm then on_for 1 then reads 0x14 (four 0x3E00_0000) calm

pub record RunBoxes : Type 0 where
  -- Change 2, 1 and 2: four runs of one tick, none of them at a look
  pub between_looks : Plays run_box
      (on_for 1 then ticks 3 then on_for 1 then ticks 3 then on_for 1 then shows 0 then ticks 3 then on_for 1 then shows 0x3E00_0000)
  -- 2: as much at four looks, and no more
  pub at_looks : Plays run_box
      (ticks 3 then on_for 1 then ticks 3 then on_for 1 then ticks 3 then on_for 1 then shows 0 then ticks 3 then on_for 1 then shows 0x3E00_0000)
  -- 2: runs of two, one and six ticks, of which the last ends with a quarter left over; then three more
  pub runs : Plays run_box
      (ticks 1 then on_for 2 then shows 0 then ticks 5 then on_for 1 then shows 0 then ticks 1 then on_for 6 then shows 0x3E80_0000
      then on_for 3 then shows 0x3EC0_0000)
  -- 2: an accepted write of OperatingTime loses three quarters, kept or not
  pub written : Plays run_box
      (on_for 3 then writes 0x14 (four 0x3F80_0000) past then on_for 3 then shows 0x3F80_0000 then on_for 1 then shows 0x3F90_0000 then on_for 3
      then writes 0x0D (one 0x01) past then writes 0x14 (four 0x3F80_0000) past then on_for 3 then shows 0x3F80_0000 then on_for 1 then shows 0x3F90_0000)
  -- 2: so does a reset, which gives the kept count
  pub reset : Plays run_box
      (on_for 3 then writes 0x03 (one 0xFF) past then on_for 3 then shows 0 then on_for 1 then shows 0x3E00_0000 then on_for 3 then writes 0x03 (one 0xFF) past
      then shows 0 then on_for 1 then shows 0)
  -- 2: refused calls lose none, nor do others
  pub refused : Plays run_box refusals
  pub lost_by_nothing_else : Plays run_box others
  -- so neither list gives channel 1 a time, and each has four ticks with its InFlag TRUE; a write of OperatingTime and a reset give one
  pub no_time_given : map (λ cs. gives 1 run_box (map call_in cs)) (refusals ∷ others ∷ []) ≡ false ∷ false ∷ []
  pub counted : map (λ cs. ticks_on 1 run_box (map call_in cs)) (refusals ∷ others ∷ (on_for 9 then ticks 2) ∷ []) ≡ 4 ∷ 4 ∷ 9 ∷ []
  pub time_given : map (λ cs. gives 1 run_box (map call_in cs)) ((on_for 3 then writes 0x14 (four 0x3F80_0000) past) ∷ (writes 0x03 (one 0xFF) past then on_for 3) ∷ []) ≡ true ∷ true ∷ []
  -- a simulated input, by FlagReg and by InFlags
  pub simulated : Plays run_box
      (writes 0x20 (one 0x40) past then ticks 3 then writes 0x20 (one 0x00) past then ticks 3 then reads 0x24 (four 0) past then writes 0x111 (two 0x0002) past
      then ticks 1 then reads 0x24 (four 0x3E00_0000) past then shows 0)
  -- Change 1, 9: four quarters, or 255, act as none
  pub four_quarters : Plays (box_with_time (record { count = record { 0 = 8 }; quarters = 4 })) (on_for 3 then shows 0x3F80_0000 then on_for 1 then shows 0x3F90_0000)
  pub many_quarters : Plays (box_with_time (record { count = record { 0 = 8 }; quarters = 255 })) (on_for 3 then shows 0x3F80_0000 then on_for 1 then shows 0x3F90_0000)
