-- Worked boxes: the words of flags, FlagReg, currents, ChConfig and the acknowledgement of errors. The proof is in proofs/Worked/Effects.antt.
use Rattle.std.specs.Prelude.{true, false, [], ◌∷◌}
use Rattle.model.specs.Calls.{tick}
use Rattle.model.specs.Worked.{one, two, four, words, calm, past, present, ◌then◌, reads, writes, refused_write, takes, refuses, sampled}
use Rattle.model.specs.Worked.{bytes_from, words_from, Plays, wire_box}

pub record Effects : Type 0 where
  -- A channel 14: OutFlags, bit k-1 for channel k; a rise has no change rule, a fall has it, an input has PrgError, and no Act bit is cleared
  pub out_flags : Plays wire_box
      (writes 0x110 (two 0xFFFF) present then reads 0x110 (two 0x80BB) present then reads 0x112 (four 0x7F44_7F44) present
      then reads 0x11F (four 0x0100_0100) present then bytes_from 0x10 16 present (0x80 ∷ 0x80 ∷ 0x02 ∷ 0xA0 ∷ 0x80 ∷ 0x80 ∷ 0x02 ∷ 0x80 ∷ 0x02 ∷
      0x02 ∷ 0x02 ∷ 0x02 ∷ 0x02 ∷ 0x02 ∷ 0x02 ∷ 0x80 ∷ [])
      then words_from 0x16 16 present (0 ∷ 0 ∷ 0 ∷ 0 ∷ 0 ∷ 0 ∷ 0 ∷ 0 ∷ 0 ∷ 0 ∷ 0 ∷ 0 ∷ 0 ∷ 0 ∷ 0 ∷ 0 ∷ []) then writes 0x110 (two 0x0081) present
      then reads 0x110 (two 0x0081) present then bytes_from 0x10 16 present (0x80 ∷ 0x04 ∷ 0x02 ∷ 0x10 ∷ 0x04 ∷ 0x04 ∷ 0x02 ∷ 0x80 ∷ 0x02 ∷ 0x02 ∷
      0x02 ∷ 0x02 ∷ 0x02 ∷ 0x02 ∷ 0x02 ∷ 0x04 ∷ []) then words_from 0x16 16 present (0 ∷ 0x3E20_0000 ∷ 0 ∷ 0x3E00_0000 ∷ 0x3E40_0000 ∷ 0x3E60_0000 ∷
      0 ∷ 0 ∷ 0 ∷ 0 ∷ 0 ∷ 0 ∷ 0 ∷ 0 ∷ 0 ∷ 0x3EA0_0000 ∷ []) then reads 0x112 (four 0x7F44_7F44) present then writes 0x110 (two 0) present
      then reads 0x112 (four 0x7F44_7F44) present then reads 0x0F (words (0x8100_0100 ∷ 0x88FE_0200 ∷ 0x88FE_0200 ∷ [])) present)
  -- A channel 9, 10 and 15: InFlags on simulated channels only, the levels of samples on the others, and each rise counted
  pub in_flags : Plays wire_box
      (writes 0x111 (two 0xFFFF) past then reads 0x111 (two 0x0062) past
      then words_from 0x12 16 past (0x0102_0304 ∷ 0x0000_0001 ∷ 0 ∷ 0 ∷ 0 ∷ 0x0000_0001 ∷ 0x0000_0001 ∷ 0 ∷ []) then writes 0x111 (two 0xFFFF) past
      then writes 0x111 (two 0x0042) past then reads 0x111 (two 0x0042) past then writes 0x111 (two 0x0022) past then reads 0x111 (two 0x0022) past
      then reads 0x62 (four 0x0000_0002) past then reads 0x22 (four 0x0000_0001) past then takes (sampled 1 true 0) then takes (sampled 1 true 0)
      then takes (sampled 2 false 0) then takes (sampled 16 true 0) then reads 0x111 (two 0x8023) past then reads 0x12 (four 0x0102_0305) past
      then takes (sampled 1 false 0) then takes (sampled 1 true 0) then reads 0x12 (four 0x0102_0306) past then reads 0x102 (four 0x0000_0001) past
      then writes 0x12 (four 0x7FFF_FFFF) past then takes (sampled 1 false 0) then takes (sampled 1 true 0) then reads 0x12 (four 0x8000_0000) past
      then reads 0x10 (one 0x60) past)
  -- A channel 1, 7, 12 and 13: InA and InB, what FlagReg takes on an output, an input and a one-shot, PrgError, the change rule, and what a write clears
  --  of Act
  pub flag_reg_lem : Plays wire_box
      (takes (sampled 3 true 0) then reads 0x10 (one 0x10) past then writes 0x111 (two 0x0002) past then takes (sampled 3 false 0)
      then reads 0x10 (one 0x20) past then takes (sampled 3 true 0) then reads 0x10 (one 0x30) past then writes 0x10 (one 0xFF) present
      then reads 0x10 (one 0xB6) present then reads 0x16 (four 0x44A0_C0E0) present then reads 0x1F (four 0x0100_0100) present
      then reads 0x1F (four 0x0100_0100) present then writes 0x10 (one 0x80) past then reads 0x10 (one 0xB4) past
      then reads 0x1F (four 0x0100_0000) past then reads 0x1F (four 0) past then writes 0x16 (four 0x3F80_0000) past
      then writes 0x10 (one 0x80) past then reads 0x16 (four 0x3F80_0000) past then writes 0x10 (one 0x00) past then reads 0x10 (one 0x34) past
      then reads 0x16 (four 0x44A0_C0E0) past then writes 0x30 (one 0xFF) present then reads 0x30 (one 0x42) present
      then reads 0x36 (four 0) present then reads 0x3F (four 0x0100_0100) present then writes 0x30 (one 0x77) past then reads 0x30 (one 0x40) past
      then reads 0x3F (four 0x0100_0000) past then writes 0x20 (one 0xFF) past then reads 0x20 (one 0xEC) past
      then reads 0x22 (four 0x0000_0001) past then reads 0x26 (four 0x3E20_0000) past then writes 0x20 (one 0x80) past
      then writes 0x20 (one 0x48) past then reads 0x20 (one 0x6C) past then reads 0x22 (four 0x0000_0002) past then reads 0x2F (four 0) past
      then writes 0x40 (one 0x80) past then reads 0x40 (one 0xA0) past then reads 0x46 (four 0x3E00_0000) past then writes 0x40 (one 0x08) past
      then reads 0x40 (one 0x18) past then reads 0x4F (four 0) past then writes 0x80 (one 0xC0) past then reads 0x80 (one 0x84) past
      then takes (sampled 8 true 0) then reads 0x80 (one 0xE4) past)
  -- A channel 11: currents that trip and those that do not, by sample and written, with the overload bit and silenced; the change rule; an
  --  acknowledgement with a standing Act
  pub currents : Plays wire_box
      (writes 0x10 (one 0x80) past then writes 0x16 (four 0x3F80_0000) past then takes (sampled 1 false 0x4000_0000) then reads 0x10 (one 0x84) past
      then reads 0x13 (four 0x4000_0000) past then reads 0x16 (four 0x3F80_0000) past then takes (sampled 1 false 0x4000_0001)
      then reads 0x10 (one 0x06) present then reads 0x13 (four 0x4000_0001) present then reads 0x16 (four 0x44A0_C0E0) present
      then reads 0x1F (four 0x4000_4000) present then reads 0x1F (four 0x4000_4000) present then writes 0x10 (one 0x80) past
      then reads 0x1F (four 0x4000_0000) past then reads 0x1F (four 0) past then writes 0x50 (one 0x80) past then takes (sampled 5 false 0x7F7F_FFFF)
      then reads 0x50 (one 0x04) past then reads 0x53 (four 0x7F7F_FFFF) past then reads 0x5F (four 0) past then writes 0x40 (one 0x88) past
      then reads 0x40 (one 0xA8) past then writes 0x43 (four 0x4000_0000) past then reads 0x40 (one 0xA8) past
      then writes 0x43 (four 0x4040_0000) present then reads 0x40 (one 0x12) present then reads 0x46 (four 0x3E00_0000) present
      then reads 0x4F (four 0x4000_4000) present then takes (sampled 3 false 0x4040_0000) then reads 0x3F (four 0x4000_4000) present
      then reads 0x30 (one 0x02) present then reads 0x36 (four 0) present then takes (sampled 3 false 0xC040_0000) then takes (sampled 3 false 0x8000_0000)
      then reads 0x33 (four 0x8000_0000) present then refuses 9 (sampled 3 false 0x7F80_0000) then refuses 9 (sampled 3 false 0x7FC0_0000)
      then reads 0x33 (four 0x8000_0000) present then refuses 8 (sampled 17 false 0x7FC0_0000) then refuses 8 (sampled 0 true 0)
      then refuses 8 (sampled 17 true 0) then takes (sampled 16 false 0) then refused_write 7 0x33 (four 0xFF80_0000) present
      then refused_write 7 0x33 (four 0x7FC0_0000) present then writes 0x33 (four 0x8000_0000) present then reads 0x33 (four 0x8000_0000) present)
  -- A channel 16: ChConfig clears FBStatus, Control, InternalState and OutFlag, with the change rule of the new references; the same where the bytes are
  --  equal
  pub ch_config : Plays wire_box
      (writes 0x0D (one 0x01) past then writes 0x20 (one 0xC8) past then takes tick then reads 0x20 (one 0xCC) past
      then reads 0x21 (four 0x3EC8_0000) past then writes 0x29 (four 0x0120_0300) past then reads 0x20 (one 0x44) past
      then reads 0x21 (four 0x3EC8_0000) past then reads 0x26 (four 0x3E20_0000) past then reads 0x29 (four 0x0120_0300) past
      then writes 0x20 (one 0x08) past then takes tick then reads 0x20 (one 0x8C) past then reads 0x21 (four 0x3EC8_0000) past
      then writes 0x29 (four 0x0120_0000) past then reads 0x20 (one 0x00) past then reads 0x26 (four 0x3E20_0000) past
      then writes 0x10 (one 0x80) past then reads 0x10 (one 0x84) past then writes 0x16 (four 0x3F80_0000) past
      then writes 0x19 (four 0x0010_0010) past then reads 0x10 (one 0x04) past then reads 0x16 (four 0x44A0_C0E0) past
      then writes 0x16 (four 0x3F80_0000) past then writes 0x19 (four 0x0410_0000) past then reads 0x10 (one 0x10) past
      then reads 0x16 (four 0x3F80_0000) past then writes 0x39 (four 0x0000_0005) past then reads 0x30 (one 0x00) past
      then reads 0x36 (four 0xBD80_0000) past then reads 0x1F (four 0) past then reads 0x2F (four 0) past)
  -- Registers 5 to 8: CommonError, IOChError and the common ChError with errors on channels 1, 8, 9 and 16; acknowledging with and without a standing
  --  Act
  pub common_error : Plays wire_box
      (writes 0x0F (words (0 ∷ 0 ∷ 0 ∷ [])) calm then reads 0x0F (words (0 ∷ 0 ∷ 0 ∷ [])) calm then takes (sampled 1 false 0x4040_0000)
      then writes 0x80 (one 0x88) present then takes (sampled 9 false 0x4040_0000) then takes (sampled 16 false 0x4040_0000)
      then reads 0x0F (words (0x0100_0100 ∷ 0x0203_0300 ∷ 0x0203_0300 ∷ [])) present then reads 0x112 (four 0x8181_8181) present
      then reads 0x11F (four 0x0100_0100) present then writes 0x90 (one 0x00) present
      then reads 0x0F (words (0x0100_0100 ∷ 0x0203_0300 ∷ 0x0201_0300 ∷ [])) present
      then reads 0x0F (words (0x0100_0100 ∷ 0x0203_0300 ∷ 0x0201_0300 ∷ [])) present then reads 0x112 (four 0x8181_8081) present
      then writes 0x0F (words (0 ∷ 0 ∷ 0 ∷ [])) present then reads 0x0F (words (0x0100_0100 ∷ 0x0201_0300 ∷ 0x0201_0300 ∷ [])) present
      then reads 0x112 (four 0x8081_8081) present then writes 0x10 (one 0x00) present then writes 0x80 (one 0x00) present
      then writes 0x100 (one 0x00) past then reads 0x0F (words (0x0100_0000 ∷ 0x0201_0300 ∷ 0 ∷ [])) past then reads 0x11F (four 0x0100_0000) past
      then reads 0x1F (four 0x4000_0000) past then reads 0x112 (four 0x8080_0000) past then writes 0x0F (words (0 ∷ 0 ∷ 0 ∷ [])) calm
      then reads 0x112 (four 0) calm then reads 0x11F (four 0) calm then reads 0x0F (words (0 ∷ 0 ∷ 0 ∷ [])) calm)
