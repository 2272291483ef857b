-- Worked boxes: the data channel of document 02, Change 1: its registers, what is kept of them, its section of the image, and lookups in a table that rises
-- and in one that does not. The proof is in proofs/Worked/Levels.antt.
use Rattle.std.specs.Prelude.{◌≡◌, false, List, [], ◌∷◌, ◌++◌, ℕ, ◌+◌, replicate, pos}
use Rattle.std.specs.Float.{binary32}
use Rattle.std.specs.Float.Ieee.{of_bits}
use Rattle.counts.specs.Counts.{timer}
use Rattle.model.specs.declared.Module.{Module}
use Rattle.model.specs.declared.Pair.{Pair}
use Rattle.model.specs.declared.LevelTable.{LevelTable}
use Rattle.model.specs.State.{shared_of, reals_of, module_of, data_channel_of}
use Rattle.model.specs.Hours.{unset_clock}
use Rattle.model.specs.Lookup.{pair_of}
use Rattle.model.specs.Restored.{powered_up}
use Rattle.model.specs.Calls.{look_up, tick, power_up, power_up_answer, store_answer}
use Rattle.model.specs.Worked.{one, two, four, words, Case, calm, past, answering, ◌then◌, reads, writes, refused_write, refused_read, takes, ticks, Plays}
use Rattle.model.specs.Worked.{config_of, no_entry}

-- a lookup of X by its bits, and the bits that it gives; and one that is refused
abbrev pub finds : ℕ → ℕ → ℕ → List Case
finds k x bits =
    record {
      call = look_up k (of_bits binary32 x);
      answer = record { number = 0; length = 0; buffer = []; data_error = false; general_error = false; real_bits = bits };
    } ∷ []

abbrev pub refused_look_up : ℕ → ℕ → ℕ → List Case
refused_look_up why k x = record { call = look_up k (of_bits binary32 x); answer = answering why 0 [] calm } ∷ []

-- ---- a table by its twenty words
abbrev pub pairs_of : List ℕ → List Pair
pairs_of [] = []
pairs_of (x ∷ []) = []
pairs_of (x ∷ y ∷ ws) = pair_of (of_bits binary32 x) (of_bits binary32 y) ∷ pairs_of ws

abbrev pub table : List ℕ → LevelTable
table ws = record { pairs = pairs_of ws }

-- X rises: -1, 0, 0.1, 0.5, 1, 2, 4, 8, 16, 17; the last two Y are so far apart that their difference is no Real
abbrev pub rising : List ℕ
rising =
    0xBF80_0000 ∷ 0x4120_0000 ∷ 0x0000_0000 ∷ 0x3E99_999A ∷ 0x3DCC_CCCD ∷ 0x3F33_3333 ∷ 0x3F00_0000 ∷ 0x3F80_0000 ∷ 0x3F80_0000 ∷ 0x4040_0000 ∷
    0x4000_0000 ∷ 0xC0A0_0000 ∷ 0x4080_0000 ∷ 0x5015_02F9 ∷ 0x4100_0000 ∷ 0x4000_0000 ∷ 0x4180_0000 ∷ 0xFF61_B1E6 ∷ 0x4188_0000 ∷ 0x7F61_B1E6 ∷ []

-- X does not rise: the first two are so far apart that their difference is no Real
abbrev pub falling : List ℕ
falling =
    0xFF61_B1E6 ∷ 0xFF61_B1E6 ∷ 0x7F61_B1E6 ∷ 0x7F61_B1E6 ∷ 0x3F80_0000 ∷ 0x4000_0000 ∷ 0x4000_0000 ∷ 0x4040_0000 ∷ 0x4040_0000 ∷ 0x4080_0000 ∷
    0x4080_0000 ∷ 0x40A0_0000 ∷ 0x40A0_0000 ∷ 0x40C0_0000 ∷ 0x40C0_0000 ∷ 0x40E0_0000 ∷ 0x40E0_0000 ∷ 0x4100_0000 ∷ 0x4100_0000 ∷ 0x4110_0000 ∷ []

-- Reals that are not finite, which no write and no image brings: Y1, Y2, X9 and Y10
abbrev pub not_finite_of : List ℕ
not_finite_of =
    0x3F80_0000 ∷ 0x7F80_0000 ∷ 0x4000_0000 ∷ 0x7FC0_0000 ∷ 0x4040_0000 ∷ 0x4080_0000 ∷ 0x4080_0000 ∷ 0x40A0_0000 ∷ 0x40A0_0000 ∷ 0x40C0_0000 ∷
    0x40C0_0000 ∷ 0x40E0_0000 ∷ 0x40E0_0000 ∷ 0x4100_0000 ∷ 0x4100_0000 ∷ 0x4110_0000 ∷ 0x7F80_0000 ∷ 0x4040_0000 ∷ 0x4180_0000 ∷ 0xFF80_0000 ∷ []

-- RealA 1.5, RealB -2.25 and two tables; the watchdog off, and no channel set up
abbrev pub level_box_with : List ℕ → List ℕ → Module
level_box_with first second =
    powered_up
    (record {
      module_config = config_of 0x0010_0000;
      wd_preset = timer (pos 0);
      entries = replicate 16 no_entry;
      data_kept = record { reals = reals_of (of_bits binary32 0x3FC0_0000) (of_bits binary32 0xC010_0000); table1 = table first; table2 = table second };
    })

abbrev pub level_box : Module
level_box = level_box_with rising falling

-- the same after 1151998 ticks
abbrev pub late_box : Module
late_box =
    let m = level_box in
    module_of (shared_of (timer (pos 9215984)) (config_of 0x0010_0000) (timer (pos 0)) false 1151998 unset_clock) m.service m.channels (data_channel_of m)

-- ---- its image
abbrev pub level_bytes : List ℕ
level_bytes = words (0x3FC0_0000 ∷ 0xC010_0000 ∷ []) ++ (words rising ++ words falling)

abbrev pub level_image : List ℕ → ℕ → List ℕ
level_image bytes sum =
    one 1 ++ (four 0x0010_0000 ++ (replicate 4 0 ++ (one 16 ++ (replicate 704 0 ++ (one 1 ++ (bytes ++ (one 1 ++ two sum)))))))

pub record LevelBoxes : Type 0 where
  -- 4 to 6: at an entry, below the first and above the last
  pub at_entries : Plays level_box
      (finds 1 0xC000_0000 0x4120_0000 then finds 1 0xBF80_0000 0x4120_0000 then finds 1 0x8000_0000 0x3E99_999A then finds 1 0x3DCC_CCCD 0x3F33_3333
      then finds 1 0x3F80_0000 0x4040_0000 then finds 1 0x4100_0000 0x4000_0000 then finds 1 0x4188_0000 0x7F61_B1E6
      then finds 1 0x4190_0000 0x7F61_B1E6)
  -- 6: on a line, each operation rounded once, which in another order or rounded at the end alone gives other bits at the first two; a difference
  -- that is no Real goes on as an infinity
  pub on_lines : Plays level_box
      (finds 1 0x3D89_2929 0x3F11_6162 then finds 1 0x3E76_2208 0x3F4E_2662 then finds 1 0xBF00_0000 0x40A4_CCCD
      then finds 1 0x3D4C_CCCD 0x3F00_0000 then finds 1 0x3E99_999A 0x3F59_999A then finds 1 0x3F33_3333 0x3FE6_6666
      then finds 1 0x3FC0_0000 0xBF80_0000 then finds 1 0x4040_0000 0x4F95_02F9 then finds 1 0x40E0_0000 0x4F15_02F8
      then finds 1 0x4184_0000 0x7F80_0000)
  -- 4, 5 and 7: a table that does not rise, and the one NaN
  pub not_rising : Plays level_box
      (finds 2 0xFF70_BDC2 0xFF61_B1E6 then finds 2 0x0000_0000 0x7FC0_0000 then finds 2 0x4100_0000 0x7FC0_0000 then finds 2 0x4108_0000 0x4110_0000)
  -- 9: what is not finite acts as 0, and is read as it is; no calls bring such a box
  pub not_finite_acts : Plays (level_box_with falling not_finite_of)
      (finds 2 0x3F80_0000 0x0000_0000 then finds 2 0x4000_0000 0x0000_0000 then finds 2 0x4020_0000 0x4000_0000 then finds 2 0x4108_0000 0x3FB4_0000
      then finds 2 0x4188_0000 0x0000_0000 then reads 0x13D (words not_finite_of) past)
  -- 14: the table's number is asked first
  pub refused : Plays level_box
      (refused_look_up 15 0 0x7FC0_0000 then refused_look_up 15 3 0 then refused_look_up 15 255 0 then refused_look_up 7 1 0x7F80_0000
      then refused_look_up 7 2 0xFF80_0000 then refused_look_up 7 2 0x7FC0_0000)
  -- 2 and 12: the registers as they power up; the numbers beside them
  pub registers : Plays level_box
      (reads 0x130 (four 0x3FC0_0000) past then reads 0x131 (four 0xC010_0000) past then reads 0x13A (four 0) past then reads 0x13B (four 0) past
      then reads 0x13C (words rising) past then reads 0x13D (words falling) past then refused_read 2 0x132 80 past then refused_read 2 0x13F 80 past
      then refused_read 2 0x120 80 past then refused_read 1 0x140 80 past then refused_read 5 0x13C 79 past then refused_write 2 0x139 (four 0) past
      then refused_write 6 0x13C (words rising) past then refused_write 4 0x130 (two 0) past then refused_write 4 0x13D (words (0 ∷ [])) past)
  -- 2: what is written, what of it is kept, and what a reset brings back
  pub written : Plays level_box
      (writes 0x130 (four 0x4000_0000) past then writes 0x131 (four 0x8000_0000) past then refused_write 7 0x130 (four 0x7F80_0000) past
      then refused_write 7 0x131 (four 0x7FC0_0000) past then reads 0x130 (four 0x4000_0000) past then reads 0x131 (four 0x8000_0000) past
      then writes 0x03 (one 0xFF) past then reads 0x130 (four 0x3FC0_0000) past then reads 0x131 (four 0xC010_0000) past
      then writes 0x0D (one 1) past then writes 0x130 (four 0x4000_0000) past then writes 0x131 (four 0x4040_0000) past
      then writes 0x13C (words falling) past then writes 0x13D (words rising) past
      then refused_write 7 0x13D (words (replicate 19 0 ++ one 0x7F80_0000)) past
      then writes 0x03 (one 0xFF) past then reads 0x130 (four 0x4000_0000) past then reads 0x131 (four 0x4040_0000) past
      then reads 0x13C (words falling) past then reads 0x13D (words rising) past)
  -- 2: TimerA and TimerB count down as OutTimer does, each by itself
  pub timers : Plays level_box
      (writes 0x13A (four 0x3F80_0000) past then writes 0x13B (four 0xBF80_0000) past then takes tick then reads 0x13A (four 0x3F78_0000) past
      then reads 0x13B (four 0xBF84_0000) past then ticks 2 then reads 0x13A (four 0x3F68_0000) past then reads 0x13B (four 0xBF8C_0000) past)
  -- 2: the save keeps RealA and not RealB, at the 1152000th tick and not before
  pub saved : Plays late_box
      (writes 0x130 (four 0x4000_0000) past then writes 0x131 (four 0x4040_0000) past then ticks 2 then writes 0x03 (one 0xFF) past
      then reads 0x130 (four 0x4000_0000) past then reads 0x131 (four 0xC010_0000) past)
  pub not_yet : Plays late_box (writes 0x130 (four 0x4000_0000) past then takes tick then writes 0x03 (one 0xFF) past then reads 0x130 (four 0x3FC0_0000) past)
  -- 10 and 11: the image by its bytes
  pub accepted : (power_up_answer (level_image level_bytes 0x2BFA)).number ≡ 0
  pub restored : power_up (level_image level_bytes 0x2BFA) ≡ level_box
  pub stored : store_answer level_box (replicate 886 0) ≡ answering 0 886 (level_image level_bytes 0x2BFA) calm
  pub wrong_sum : (power_up_answer (level_image level_bytes (0x2BFA + 1))).number ≡ 12
  pub not_finite : (power_up_answer (level_image (words (0x7F80_0000 ∷ replicate 41 0)) 0x0122)).number ≡ 13
