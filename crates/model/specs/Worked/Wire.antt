-- Worked boxes: registers read, written and reset, their ranges, and refusals. The proof is in proofs/Worked/Wire.antt.
use Rattle.std.specs.Prelude.{List, [], ◌∷◌, ℕ}
use Rattle.model.specs.Calls.{tick}
use Rattle.model.specs.Worked.{one, two, four, words, calm, past, ◌then◌, reads, writes, refused_write, refused_read, takes, ticks}
use Rattle.model.specs.Worked.{Case, words_from, Plays, wire_box}

-- this Real written to a register, and that one read
abbrev pub writes_reads : ℕ → ℕ → ℕ → List Case
writes_reads n x y = writes n (four x) past then reads n (four y) past

-- of a timer or a preset: 0.3 s, and 1.5 and 2.5 counts
abbrev pub rounds : ℕ → List Case
rounds n = writes_reads n 0x3E99_999A 0x3E9A_0000 then writes_reads n 0x3BC0_0000 0x3C00_0000 then writes_reads n 0x3C20_0000 0x3C00_0000

-- of a timer: -1.5 and -0.5 counts
abbrev pub rounds_below : ℕ → List Case
rounds_below n = writes_reads n 0xBBC0_0000 0xBC00_0000 then writes_reads n 0xBB00_0000 0

pub record Wire : Type 0 where
  -- Registers and Setup image 2: what each register reads after power-up; reading CommonError acknowledges His bit 7
  pub power_up_lem : Plays wire_box
      (reads 0x08 (four 0x3F81_0000) past then reads 0x10 (one 0x00) past then words_from 0x11 1 past (0 ∷ 0x0102_0304 ∷ 0 ∷ 0x47A0_B0C0 ∷ 0x5152_5354
      ∷ 0 ∷ 0x44A0_C0E0 ∷ 0x4510_A0B0 ∷ 0x0010_0203 ∷ 0x3E00_0000 ∷ 0x3F00_0000 ∷ []) then reads 0x1C (words (0xC1C2_C3C4 ∷ 0xC5C6_C7C8 ∷ [])) past
      then reads 0x1D (four 0xD1D2_D3D4) past then reads 0x1F (four 0) past then reads 0x00 (two 0x013F) past then reads 0x03 (one 0x00) past
      then words_from 0x07 1 past (0 ∷ 0x3F81_0000 ∷ 0x8100_8283 ∷ 0x3F81_0000 ∷ []) then reads 0x0D (one 0x00) past then reads 0x110 (two 0) past
      then reads 0x111 (two 0) past then reads 0x112 (four 0) past then reads 0x11F (four 0) past
      then reads 0x0F (words (0x8000_0000 ∷ 0 ∷ 0 ∷ [])) past then reads 0x0F (words (0 ∷ 0 ∷ 0 ∷ [])) calm)
  -- Registers and A channel 17: each register of channel 1 written with WriteEnable and read back; what a reset restores of registers 2, 4 and 5
  pub written : Plays wire_box
      (writes 0x0D (one 0x01) past then reads 0x0D (one 0x01) past then writes 0x11 (four 0x3FC0_0000) past then writes 0x12 (four 0xFFFF_FFFE) past
      then writes 0x13 (four 0x3E99_999A) past then writes 0x14 (four 0x40A4_0000) past then writes 0x15 (four 0x6162_6364) past
      then writes 0x16 (four 0xC000_0000) past then writes 0x17 (four 0x4040_0000) past then writes 0x18 (four 0x40E0_0000) past
      then writes 0x1A (four 0x3E80_0000) past then writes 0x1B (four 0x3F40_0000) past
      then writes 0x1C (words (0xE1E2_E3E4 ∷ 0xE5E6_E7E8 ∷ [])) past then writes 0x1D (four 0xF1F2_F3F4) past then reads 0x10 (one 0x00) past then
      words_from 0x11 1 past (0x3FC0_0000 ∷ 0xFFFF_FFFE ∷ 0x3E99_999A ∷ 0x40A4_0000 ∷ 0x6162_6364 ∷ 0xC000_0000 ∷ 0x4040_0000 ∷ 0x40E0_0000 ∷
      0x0010_0203 ∷ 0x3E80_0000 ∷ 0x3F40_0000 ∷ []) then reads 0x1C (words (0xE1E2_E3E4 ∷ 0xE5E6_E7E8 ∷ [])) past
      then reads 0x1D (four 0xF1F2_F3F4) past then reads 0x1F (four 0) past then writes 0x0D (one 0x00) past
      then writes 0x12 (four 0x0000_0007) past then writes 0x14 (four 0x3F80_0000) past then writes 0x15 (four 0x0102_0304) past
      then reads 0x12 (four 0x0000_0007) past then reads 0x14 (four 0x3F80_0000) past then reads 0x15 (four 0x0102_0304) past
      then writes 0x03 (one 0xFF) past then reads 0x10 (one 0x00) past then words_from 0x11 1 past (0 ∷ 0xFFFF_FFFE ∷ 0 ∷ 0x40A4_0000 ∷ 0x6162_6364 ∷
      0 ∷ 0x4040_0000 ∷ 0x40E0_0000 ∷ 0x0010_0203 ∷ 0x3E80_0000 ∷ 0x3F40_0000 ∷ []) then reads 0x1C (words (0xE1E2_E3E4 ∷ 0xE5E6_E7E8 ∷ [])) past
      then reads 0x1D (four 0xF1F2_F3F4) past then reads 0x1F (four 0) past then reads 0x0D (one 0x00) past
      then reads 0x0F (words (0x4000_0000 ∷ 0 ∷ 0 ∷ [])) past then reads 0x0F (words (0 ∷ 0 ∷ 0 ∷ [])) calm)
  -- Service 8, 9, A, D: WDTimer written and lost, WDPreset taken at once, unused bytes kept, and kept over a reset
  pub service : Plays wire_box
      (writes 0x0D (one 0x01) past then writes 0x08 (four 0x4000_0000) past then reads 0x08 (four 0x3F81_0000) past
      then writes 0x0A (four 0x4000_0000) past then reads 0x08 (four 0x4000_0000) past then reads 0x0A (four 0x4000_0000) past
      then writes 0x09 (four 0x7110_7273) past then reads 0x09 (four 0x7110_7273) past then ticks 2 then reads 0x07 (four 0x0000_0010) past
      then reads 0x08 (four 0x4000_0000) past then reads 0x08 (four 0x4000_0000) past then writes 0x03 (one 0xFF) past then reads 0x07 (four 0) past
      then reads 0x09 (four 0x7110_7273) past then reads 0x0A (four 0x4000_0000) past then reads 0x08 (four 0x4000_0000) past
      then reads 0x0D (one 0x00) past then refused_write 6 0x09 (four 0) past then refused_write 6 0x0A (four 0) past
      then reads 0x0A (four 0x4000_0000) past)
  -- Time and amperes 3 to 5, Change 5, 2 and 3, and question 7: the ends of each register's range, -0, NaN and infinity; what the last accepted value reads
  pub limits : Plays wire_box
      (writes 0x0D (one 0x01) past then writes 0x11 (four 0x4AFF_FFFF) past then refused_write 7 0x11 (four 0x4B00_0000) past
      then writes 0x11 (four 0xCB00_0000) past then refused_write 7 0x11 (four 0xCB00_0001) past then writes 0x11 (four 0x8000_0000) past
      then writes 0x11 (four 0x8000_0001) past then refused_write 7 0x11 (four 0x7F80_0000) past then refused_write 7 0x11 (four 0xFF80_0000) past
      then refused_write 7 0x11 (four 0x7FC0_0000) past then reads 0x11 (four 0) past then writes 0x16 (four 0x4AFF_FFFF) past
      then refused_write 7 0x16 (four 0x4B00_0000) past then writes 0x16 (four 0xCB00_0000) past then refused_write 7 0x16 (four 0xCB00_0001) past
      then writes 0x16 (four 0x8000_0000) past then writes 0x16 (four 0x8000_0001) past then refused_write 7 0x16 (four 0x7F80_0000) past
      then refused_write 7 0x16 (four 0xFF80_0000) past then refused_write 7 0x16 (four 0x7FC0_0000) past then writes 0x16 (four 0xBFFF_FFFF) past
      then reads 0x16 (four 0xC000_0000) past then writes 0x17 (four 0x4AFF_FFFF) past then refused_write 7 0x17 (four 0x4B00_0000) past
      then writes 0x17 (four 0) past then writes 0x17 (four 0x8000_0000) past then refused_write 7 0x17 (four 0x8000_0001) past
      then refused_write 7 0x17 (four 0xCB00_0000) past then refused_write 7 0x17 (four 0x7F80_0000) past
      then refused_write 7 0x17 (four 0x7FC0_0000) past then writes 0x17 (four 0x3FFF_FFFF) past then reads 0x17 (four 0x4000_0000) past
      then writes 0x18 (four 0x4AFF_FFFF) past then refused_write 7 0x18 (four 0x4B00_0000) past then writes 0x18 (four 0) past
      then writes 0x18 (four 0x8000_0000) past then refused_write 7 0x18 (four 0x8000_0001) past then refused_write 7 0x18 (four 0xCB00_0000) past
      then refused_write 7 0x18 (four 0x7F80_0000) past then refused_write 7 0x18 (four 0x7FC0_0000) past then writes 0x18 (four 0x4049_0FDB) past
      then reads 0x18 (four 0x4049_0000) past then writes 0x0A (four 0x4AFF_FFFF) past then refused_write 7 0x0A (four 0x4B00_0000) past
      then writes 0x0A (four 0) past then writes 0x0A (four 0x8000_0000) past then refused_write 7 0x0A (four 0x8000_0001) past
      then refused_write 7 0x0A (four 0xCB00_0000) past then refused_write 7 0x0A (four 0x7F80_0000) past
      then refused_write 7 0x0A (four 0x7FC0_0000) past then writes 0x08 (four 0x4AFF_FFFF) past then refused_write 7 0x08 (four 0x4B00_0000) past
      then writes 0x08 (four 0) past then writes 0x08 (four 0x8000_0000) past then refused_write 7 0x08 (four 0x8000_0001) past
      then refused_write 7 0x08 (four 0xCB00_0000) past then refused_write 7 0x08 (four 0x7F80_0000) past
      then refused_write 7 0x08 (four 0x7FC0_0000) past then reads 0x0A (four 0) past then writes 0x14 (four 0x4DFF_FFFF) past
      then refused_write 7 0x14 (four 0x4E00_0000) past then writes 0x14 (four 0x8000_0000) past then refused_write 7 0x14 (four 0x8000_0001) past
      then refused_write 7 0x14 (four 0xBF80_0000) past then refused_write 7 0x14 (four 0x7F80_0000) past
      then refused_write 7 0x14 (four 0x7FC0_0000) past then writes 0x14 (four 0x3FFF_FFFF) past then reads 0x14 (four 0x4000_0000) past
      then writes 0x14 (four 0x4DFF_FFFF) past then reads 0x14 (four 0x4DFF_FFFF) past then writes 0x1A (four 0) past
      then writes 0x1A (four 0x3F80_0000) past then refused_write 7 0x1A (four 0x3F80_0001) past then writes 0x1A (four 0x8000_0000) past
      then refused_write 7 0x1A (four 0x8000_0001) past then refused_write 7 0x1A (four 0xBF80_0000) past
      then refused_write 7 0x1A (four 0x7F80_0000) past then refused_write 7 0x1A (four 0x7FC0_0000) past then reads 0x1A (four 0x8000_0000) past
      then writes 0x1B (four 0) past then writes 0x1B (four 0x3F80_0000) past then refused_write 7 0x1B (four 0x3F80_0001) past
      then writes 0x1B (four 0x8000_0000) past then refused_write 7 0x1B (four 0x8000_0001) past then refused_write 7 0x1B (four 0xBF80_0000) past
      then refused_write 7 0x1B (four 0x7F80_0000) past then refused_write 7 0x1B (four 0x7FC0_0000) past then reads 0x1B (four 0x8000_0000) past)
  -- Change 5, 1 and 2: every written time is the nearest count, and the even one at a tie. WDTimer then reads what WDPreset has. OperatingTime in eighths:
  -- 0.3 s, 0.4 s, one and a half, two and a half
  pub nearest : Plays wire_box
      (writes 0x0D (one 0x01) past then rounds 0x11 then rounds_below 0x11 then rounds 0x16 then rounds_below 0x16 then rounds 0x13A then rounds_below 0x13A
      then rounds 0x13B then rounds_below 0x13B then rounds 0x17 then rounds 0x18 then rounds 0x0A then writes 0x08 (four 0x3E99_999A) past
      then reads 0x08 (four 0x3C00_0000) past then writes_reads 0x14 0x3E99_999A 0x3E80_0000 then writes_reads 0x14 0x3ECC_CCCD 0x3EC0_0000
      then writes_reads 0x14 0x3E40_0000 0x3E80_0000 then writes_reads 0x14 0x3EA0_0000 0x3E80_0000)
  -- Questions 1 to 7: refusals by each number; CommonError takes zeros alone; a refused read acknowledges nothing, and every wire call presets WDTimer
  pub refusals : Plays wire_box
      (refused_read 5 0x0F 11 past then reads 0x10 (one 0x00) past then reads 0x0F (words (0x8000_0000 ∷ 0 ∷ 0 ∷ [])) past
      then reads 0x0F (words (0 ∷ 0 ∷ 0 ∷ [])) calm then refused_read 5 0x1C 7 calm then reads 0x1C (words (0xC1C2_C3C4 ∷ 0xC5C6_C7C8 ∷ [])) calm
      then refused_read 5 0x10 0 calm then refused_read 2 0x1E 0 calm then refused_read 1 0x140 0 calm then refused_read 5 0x112 3 calm
      then refused_write 1 0x140 (one 0x00) calm then refused_write 2 0x0E (one 0x00) calm then refused_write 2 0x113 (two 0) calm
      then refused_write 3 0x1F (one 0x00) calm then refused_write 3 0x00 (two 0) calm then refused_write 3 0x07 (four 0) calm
      then refused_write 3 0x112 (four 0) calm then refused_write 3 0x11F ([]) calm then refused_write 4 0x19 (0x00 ∷ 0x00 ∷ 0x00 ∷ []) calm
      then refused_write 4 0x19 (0x00 ∷ 0x00 ∷ 0x00 ∷ 0x00 ∷ 0x00 ∷ []) calm then refused_write 6 0x19 (four 0x0077_0000) calm
      then refused_write 6 0x1C (words (0 ∷ 0 ∷ [])) calm then refused_write 6 0x17 (four 0xBF80_0000) calm then refused_write 6 0x09 (four 0) calm
      then refused_write 6 0x0A (four 0) calm then refused_write 4 0x10 ([]) calm then refused_write 4 0x110 (one 0x00) calm
      then refused_write 7 0x0D (one 0x02) calm then refused_write 7 0x03 (one 0xFE) calm
      then refused_write 7 0x0F (words (0x0100_0000 ∷ 0 ∷ 0 ∷ [])) calm then refused_write 7 0x0F (words (0x0001_0000 ∷ 0 ∷ 0 ∷ [])) calm
      then refused_write 7 0x0F (words (0x0000_0100 ∷ 0 ∷ 0 ∷ [])) calm then refused_write 7 0x0F (words (0x0000_0001 ∷ 0 ∷ 0 ∷ [])) calm
      then refused_write 7 0x0F (words (0 ∷ 0x0100_0000 ∷ 0 ∷ [])) calm then refused_write 7 0x0F (words (0 ∷ 0x0001_0000 ∷ 0 ∷ [])) calm
      then refused_write 7 0x0F (words (0 ∷ 0x0000_0100 ∷ 0 ∷ [])) calm then refused_write 7 0x0F (words (0 ∷ 0x0000_0001 ∷ 0 ∷ [])) calm
      then refused_write 7 0x0F (words (0 ∷ 0 ∷ 0x0100_0000 ∷ [])) calm then refused_write 7 0x0F (words (0 ∷ 0 ∷ 0x0001_0000 ∷ [])) calm
      then refused_write 7 0x0F (words (0 ∷ 0 ∷ 0x0000_0100 ∷ [])) calm then refused_write 7 0x0F (words (0 ∷ 0 ∷ 0x0000_0001 ∷ [])) calm
      then takes tick then reads 0x08 (four 0x3F7A_0000) calm then takes tick then refused_write 1 0x140 (one 0x00) calm
      then reads 0x08 (four 0x3F81_0000) calm then takes tick then refused_read 1 0x140 0 calm then reads 0x08 (four 0x3F81_0000) calm
      then reads 0x10 (one 0x00) calm)
