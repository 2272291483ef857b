-- Worked boxes: the setup image by its bytes, what power-up takes, and what is stored. The proof is in proofs/Worked/Image.antt.
use Rattle.std.specs.Prelude.{◌≡◌, true, false, List, [], ◌∷◌, ◌++◌, map, ℕ, ◌+◌, ◌-◌, ◌*◌, ◌%◌, length, take, drop, replicate}
use Rattle.model.specs.Image.{counts_right, entry_allowed}
use Rattle.model.specs.Calls.{run, power_up, power_up_answer, store_answer}
use Rattle.model.specs.Worked.{one, two, four, words, Case, calm, past, answering, ◌then◌, writes, takes, sampled, ticks, call_in, box_of}
use Rattle.model.specs.Worked.{no_entry, wire_box}

-- ---- the image of `wire_box`, by its sections, as the box before document 02 stored it
-- an entry: ChConfig, FBPreset, OutPreset, MinCurrent, MaxCurrent, and the other registers 0
abbrev pub bytes_with : ℕ → ℕ → ℕ → List ℕ
bytes_with g fb out = four g ++ (four fb ++ (four out ++ replicate 32 0))

abbrev pub together : List (List ℕ) → List ℕ
together [] = []
together (l ∷ ls) = l ++ together ls

abbrev pub own_bytes : List ℕ
own_bytes =
    words (0x0010_0203 ∷ 0x0005_0607 ∷ 0x0009_0A0B ∷ 0x3E00_0000 ∷ 0x3F00_0000 ∷ 0xC1C2_C3C4 ∷ 0xC5C6_C7C8 ∷ 0xD1D2_D3D4 ∷ 0x5152_5354
    ∷ 0x0102_0304 ∷ 0x000A_0B0C ∷ [])

abbrev pub wire_image : List ℕ
wire_image =
    together
    (one 1 ∷ four 0x8100_8283 ∷ four 258 ∷ one 16 ∷ own_bytes
    ∷ bytes_with 0x0120_0300 40 100 ∷ bytes_with 0x0000_0000 24 0 ∷ bytes_with 0x0430_0000 32 0 ∷ bytes_with 0x4010_0006 48 0
    ∷ bytes_with 0x4150_0100 56 0 ∷ bytes_with 0x0100_0000 72 0 ∷ bytes_with 0xBA10_0810 64 0 ∷ bytes_with 0x0000_0000 0 0
    ∷ bytes_with 0x0000_0000 0 0 ∷ bytes_with 0x0000_0000 0 0 ∷ bytes_with 0x0000_0000 0 0 ∷ bytes_with 0x0000_0000 0 0
    ∷ bytes_with 0x0000_0000 0 0 ∷ bytes_with 0x0000_0000 0 0 ∷ bytes_with 0x0010_1001 80 0
    ∷ one 1 ∷ two 0x1188 ∷ [])

-- Change 1, 10: and as it is stored now, with zeros in the data channel; its sum has one count more
abbrev pub stored_image : List ℕ
stored_image = take 714 wire_image ++ (one 1 ++ (replicate 168 0 ++ (one 1 ++ two 0x1189)))

-- ---- the image with these bytes at a place, and its sum anew
abbrev pub sum_of : List ℕ → ℕ
sum_of [] = 0
sum_of (b ∷ bs) = b + sum_of bs

abbrev pub with_bytes : ℕ → List ℕ → List ℕ
with_bytes at bs = take at wire_image ++ (bs ++ drop (at + length bs) wire_image)

abbrev pub summed : List ℕ → List ℕ
summed l = take 715 l ++ two (sum_of (take 715 l) % 65536)

-- bytes at a place, and the number that a power-up with them answers
pub record Try : Type 0 where
  pub at : ℕ
  pub bytes : List ℕ
  pub number : ℕ

abbrev pub try : ℕ → List ℕ → ℕ → Try
try at bs n = record { at = at; bytes = bs; number = n }

-- what the rules answer
abbrev pub tried : List Try → List ℕ
tried [] = []
tried (t ∷ ts) = (power_up_answer (summed (with_bytes t.at t.bytes))).number ∷ tried ts

abbrev pub numbers_of : List Try → List ℕ
numbers_of [] = []
numbers_of (t ∷ ts) = t.number ∷ numbers_of ts

-- a count, ModuleConfig and WDPreset, and an entry, the first and the last, that is not allowed
abbrev pub tries : List Try
tries =
    try 9 (one 0x11) 11 ∷ try 2 (one 0x20) 13 ∷ try 1 (four 0xFF10_FFFF) 0 ∷ try 5 (four 0x7FFF_FFFF) 0 ∷ try 5 (four 0x8000_0000) 13 ∷ try 11 (one
    0x40) 13 ∷ try 673 (one 0x11) 13 ∷ try 686 (four 0x3F80_0001) 13 ∷ []

-- a count one lower and one higher, each of the three
abbrev pub other_counts : List (List ℕ)
other_counts =
    with_bytes 0 (one 0) ∷ with_bytes 0 (one 2) ∷ with_bytes 9 (one 15) ∷ with_bytes 9 (one 17) ∷ with_bytes 714 (one 0) ∷ with_bytes 714 (one 2) ∷ []

-- ---- an entry with these bytes at a place
infix 20 ◌at◌
abbrev pub ◌at◌ : ℕ → List ℕ → List ℕ
n at bs = take n own_bytes ++ (bs ++ drop (n + length bs) own_bytes)

-- any Enablebit; the five Functions; no channel or one; presets of 0 to 2147483647; limits of 0 to 1, and -0; 24 bytes that may be any
abbrev pub allowed_entries : List (List ℕ)
allowed_entries =
    (0 at one 0xFF) ∷ (1 at one 0x50) ∷ (1 at one 0x20) ∷ (1 at one 0x30) ∷ (1 at one 0x00) ∷ (2 at one 0x10) ∷ (3 at one 0x10) ∷ (4 at four
    0x7FFF_FFFF) ∷ (8 at four 0x7FFF_FFFF) ∷ (12 at four 0x3F80_0000) ∷ (12 at four 0x8000_0000) ∷ (16 at four 0x3F80_0000) ∷ (16 at four 0x8000_0000)
    ∷ (20 at replicate 24 0xFF) ∷ []

abbrev pub refused_entries : List (List ℕ)
refused_entries =
    (1 at one 0x40) ∷ (1 at one 0x51) ∷ (2 at one 0x11) ∷ (3 at one 0x11) ∷ (4 at four 0x8000_0000) ∷ (8 at four 0x8000_0000) ∷ (12 at four
    0x3F80_0001) ∷ (12 at four 0x8000_0001) ∷ (12 at four 0x7FC0_0000) ∷ (16 at four 0x3F80_0001) ∷ (16 at four 0x8000_0001) ∷ (16 at four
    0x7FC0_0000) ∷ []

-- 16 entries with such bytes: their sum is above 65535
abbrev pub full_image : List ℕ
full_image = together (one 1 ∷ four 0x0010_0000 ∷ four 0 ∷ one 16 ∷ together (replicate 16 (replicate 20 0 ++ replicate 24 0xFF)) ∷ one 1 ∷ two 0x7EA2 ∷ [])

-- ---- Setup image 4: what is stored of channel k after calls
abbrev pub stored_entry : ℕ → List Case → List ℕ
stored_entry k cs = take 44 (drop (10 + (k - 1) * 44) (store_answer (run wire_box (map call_in cs)) (replicate 886 0)).buffer)

-- writes of every kept register of channel 1 with WriteEnable
abbrev pub enabled_writes : List Case
enabled_writes =
    writes 0x0D (one 0x01) past then writes 0x11 (four 0x3FC0_0000) past then writes 0x12 (four 0xFFFF_FFFE) past
    then writes 0x13 (four 0x3E99_999A) past then writes 0x14 (four 0x40A4_0000) past then writes 0x15 (four 0x6162_6364) past
    then writes 0x16 (four 0xC000_0000) past then writes 0x17 (four 0x4040_0000) past then writes 0x18 (four 0x40E0_0000) past
    then writes 0x1A (four 0x3E80_0000) past then writes 0x1B (four 0x3F40_0000) past then writes 0x1C (words (0xE1E2_E3E4 ∷ 0xE5E6_E7E8 ∷ [])) past
    then writes 0x1D (four 0xF1F2_F3F4) past then writes 0x19 (four 0x2120_0405) past

-- writes of registers 2, 4 and 5 without it, and what is not kept: a sample, timers, flags, currents, ticks
abbrev pub other_writes : List Case
other_writes =
    writes 0x12 (four 0x0000_0007) past then writes 0x14 (four 0x3F80_0000) past then writes 0x15 (four 0x0102_0304) past then takes (sampled 1 true 0)
    then writes 0x11 (four 0x3F80_0000) past then writes 0x16 (four 0x3F80_0000) past then writes 0x10 (one 0x80) past
    then writes 0x13 (four 0x3F80_0000) past then ticks 4

-- writes to channel 16, and a rise of its input that Counter counts
abbrev pub last_writes : List Case
last_writes =
    writes 0x0D (one 0x01) past then writes 0x102 (four 0x0000_0009) past then writes 0x109 (four 0xFF50_1001) past then takes (sampled 16 true 0)
    then writes 0x104 (four 0x3FC0_0000) past then writes 0x107 (four 0x3F80_0000) past then writes 0x108 (four 0x4000_0000) past
    then writes 0x10A (four 0x8000_0000) past then writes 0x10B (four 0x3F80_0000) past

pub record Stores : Type 0 where
  -- Setup image 1 and 2: power-up of these bytes, and storing them in a longer buffer
  pub accepted : (power_up_answer wire_image).number ≡ 0
  pub restored : power_up wire_image ≡ wire_box
  pub stored : store_answer wire_box (replicate 889 0xA5) ≡ answering 0 886 (stored_image ++ replicate 3 0xA5) calm
  pub restored_again : power_up stored_image ≡ wire_box
  -- Questions 10 to 13: a byte too many, wrong sums, and what an image and an entry may hold
  pub longer : (power_up_answer (wire_image ++ one 0)).number ≡ 10
  pub low_sum : (power_up_answer (with_bytes 716 (one 0x89))).number ≡ 12
  pub high_sum : (power_up_answer (with_bytes 715 (one 0x10))).number ≡ 12
  pub summand : (power_up_answer (with_bytes 713 (one 0x01))).number ≡ 12
  pub large_sum : (power_up_answer full_image).number ≡ 0
  pub tried_images : tried tries ≡ numbers_of tries
  pub counts : map counts_right other_counts ≡ replicate 6 false
  pub allowed : map entry_allowed allowed_entries ≡ replicate 14 true
  pub not_allowed : map entry_allowed refused_entries ≡ replicate 12 false
  -- Questions 17: the box of a refused power-up has settings of zeros
  pub refused : power_up [] ≡ box_of 0 0 (replicate 16 no_entry)
  -- A channel 17 and Setup image 4: what is kept of writes with WriteEnable, and of writes without it
  pub with_enable : stored_entry 1 enabled_writes ≡ words
      (0x2120_0405 ∷ 0x0000_0300 ∷ 0x0000_0700 ∷ 0x3E80_0000 ∷ 0x3F40_0000 ∷ 0xE1E2_E3E4 ∷ 0xE5E6_E7E8 ∷ 0xF1F2_F3F4 ∷ 0x6162_6364 ∷
      0xFFFF_FFFE ∷ 0x0000_0029 ∷ [])
  pub without : stored_entry 1 other_writes ≡ own_bytes
  pub sixteenth : stored_entry 16 last_writes ≡ words
      (0xFF50_1001 ∷ 0x0000_0100 ∷ 0x0000_0200 ∷ 0x8000_0000 ∷ 0x3F80_0000 ∷ 0 ∷ 0 ∷ 0 ∷ 0 ∷ 0x0000_0009 ∷ 0x0000_000C ∷ [])
