-- Worked boxes: samples, each of which brings a level and a current (document 02, Change 3). The proof is in proofs/Worked/Samples.antt.
use Rattle.std.specs.Prelude.{true, false}
use Rattle.model.specs.Worked.{one, two, four, past, present, ◌then◌, reads, writes, takes, refuses, sampled, Plays, wire_box}

pub record SampleBoxes : Type 0 where
  -- Change 3, 2: one sample gives InFlag, counts the rise and gives OutCurrent; the same once more counts none; a fall
  pub both : Plays wire_box
      (takes (sampled 1 true 0x3F80_0000) then reads 0x10 (one 0x40) past then reads 0x12 (four 0x0102_0305) past then reads 0x13 (four 0x3F80_0000) past
      then takes (sampled 1 true 0x3F80_0000) then reads 0x12 (four 0x0102_0305) past then takes (sampled 1 false 0x3F00_0000)
      then reads 0x10 (one 0x00) past then reads 0x12 (four 0x0102_0305) past then reads 0x13 (four 0x3F00_0000) past)
  -- 2: one that trips counts its rise, has the change rule, and leaves what stands in His; one that trips on a fall has the rule too, and counts nothing
  pub trips : Plays wire_box
      (writes 0x10 (one 0x88) present then writes 0x10 (one 0x80) past then writes 0x16 (four 0x3F80_0000) past then takes (sampled 1 true 0x4000_0001)
      then reads 0x10 (one 0x46) present then reads 0x12 (four 0x0102_0305) present then reads 0x13 (four 0x4000_0001) present
      then reads 0x16 (four 0x44A0_C0E0) present then reads 0x1F (four 0x4100_4000) present then writes 0x10 (one 0x80) past
      then writes 0x16 (four 0x3F80_0000) past then takes (sampled 1 false 0x4040_0000) then reads 0x10 (one 0x06) present
      then reads 0x12 (four 0x0102_0305) present then reads 0x16 (four 0x44A0_C0E0) present)
  -- 2 with A channel 9: a simulated input leaves the level, and the current acts
  pub simulated : Plays wire_box
      (writes 0x20 (one 0x88) past then reads 0x20 (one 0x8C) past then takes (sampled 2 true 0x4040_0000) then reads 0x20 (one 0x06) present
      then reads 0x22 (four 0) present then reads 0x23 (four 0x4040_0000) present then writes 0x111 (two 0x0002) present
      then reads 0x22 (four 0x0000_0001) present then takes (sampled 2 false 0x3F80_0000) then reads 0x20 (one 0x46) present
      then reads 0x23 (four 0x3F80_0000) present)
  -- 3: 8 and 9, 8 first; a refused sample leaves InFlag, Counter and OutCurrent, so that a fall it brought does not make the next TRUE a rise
  pub refused : Plays wire_box
      (takes (sampled 1 false 0x3F80_0000) then refuses 9 (sampled 1 true 0x7FC0_0000) then refuses 9 (sampled 1 true 0x7F80_0000)
      then refuses 9 (sampled 1 true 0xFF80_0000) then reads 0x10 (one 0x00) past then reads 0x12 (four 0x0102_0304) past
      then reads 0x13 (four 0x3F80_0000) past then takes (sampled 1 true 0x3F00_0000) then refuses 9 (sampled 1 false 0x7FC0_0000)
      then reads 0x10 (one 0x40) past then takes (sampled 1 true 0x3F00_0000) then reads 0x12 (four 0x0102_0305) past
      then refuses 8 (sampled 0 true 0x4040_0000) then refuses 8 (sampled 17 true 0x7FC0_0000) then refuses 8 (sampled 255 true 0x4040_0000)
      then reads 0x111 (two 0x0001) past then reads 0x112 (four 0) past)
  -- Time and amperes 7: a written OutCurrent is a current alone, which trips and leaves InFlag and Counter
  pub written : Plays wire_box
      (takes (sampled 1 true 0) then writes 0x13 (four 0x4040_0000) present then reads 0x10 (one 0x42) present then reads 0x12 (four 0x0102_0305) present
      then reads 0x13 (four 0x4040_0000) present then takes (sampled 1 true 0) then reads 0x12 (four 0x0102_0305) present)
