-- Worked boxes: known settings, a list of calls, and every answer written out, with its bytes. The answers were worked out from documents 01 and 02 and, where
-- calls bring the box, played through the independent model of reference/box, not taken from the definitions. Here is how they are written; the facts are in
-- Worked/.
pub mod Wire
pub mod Effects
pub mod Ticks
pub mod Saves
pub mod Image
pub mod Levels
pub mod Runs
pub mod Samples
pub mod Hours
use Rattle.std.specs.Prelude.{◌≡◌, Bool, true, false, List, [], ◌∷◌, ◌++◌, map, ℕ, zero, suc, ◌+◌, ◌/◌, ◌%◌, pos, length, replicate}
use Rattle.std.specs.Float.{binary32}
use Rattle.std.specs.Float.Ieee.{of_bits}
use Rattle.counts.specs.Counts.{timer}
use Rattle.model.specs.declared.Config.{Config}
use Rattle.model.specs.declared.Module.{Module}
use Rattle.model.specs.Image.{Entry}
use Rattle.model.specs.Restored.{powered_up}
use Rattle.model.specs.Calls.{Request, read, write, sample, tick, Answer, step}
use Rattle.model.specs.Images.{zero_data}

-- ---- bytes: of numbers of one byte, two and four, the high byte first
abbrev pub one : ℕ → List ℕ
one b = b ∷ []

abbrev pub two : ℕ → List ℕ
two n = n / 256 ∷ n % 256 ∷ []

abbrev pub four : ℕ → List ℕ
four n = n / 16777216 ∷ n / 65536 % 256 ∷ n / 256 % 256 ∷ n % 256 ∷ []

abbrev pub words : List ℕ → List ℕ
words [] = []
words (n ∷ ns) = four n ++ words ns

-- ---- calls with their answers
pub record Case : Type 0 where
  pub call : Request
  pub answer : Answer

-- DataError and GeneralError: no error; none but in history; one that stands
pub record Bits : Type 0 where
  pub data_error : Bool
  pub general_error : Bool

abbrev pub calm : Bits
calm = record { data_error = false; general_error = false }

abbrev pub past : Bits
past = record { data_error = false; general_error = true }

abbrev pub present : Bits
present = record { data_error = true; general_error = true }

abbrev pub answering : ℕ → ℕ → List ℕ → Bits → Answer
answering n len buf b =
    record { number = n; length = len; buffer = buf; data_error = b.data_error; general_error = b.general_error; real_bits = 0 }

-- one list after another
infixr 20 ◌then◌
abbrev pub ◌then◌ : List Case → List Case → List Case
xs then ys = xs ++ ys

-- a read that gives these bytes, of a buffer that has one more, which stays
abbrev pub reads : ℕ → List ℕ → Bits → List Case
reads n bs b = record { call = read n (replicate (length bs + 1) 0xA5); answer = answering 0 (length bs) (bs ++ one 0xA5) b } ∷ []

-- a write that is done; one that is refused; a read that is refused, of a buffer of n bytes
abbrev pub writes : ℕ → List ℕ → Bits → List Case
writes n bs b = record { call = write n bs; answer = answering 0 0 [] b } ∷ []

abbrev pub refused_write : ℕ → ℕ → List ℕ → Bits → List Case
refused_write why n bs b = record { call = write n bs; answer = answering why 0 [] b } ∷ []

abbrev pub refused_read : ℕ → ℕ → ℕ → Bits → List Case
refused_read why n lent b = record { call = read n (replicate lent 0xA5); answer = answering why 0 (replicate lent 0xA5) b } ∷ []

-- a local call or a tick that is done, and a local call that is refused
abbrev pub takes : Request → List Case
takes x = record { call = x; answer = answering 0 0 [] calm } ∷ []

abbrev pub refuses : ℕ → Request → List Case
refuses why x = record { call = x; answer = answering why 0 [] calm } ∷ []

-- a sample of channel k: its level, and the bits of its current
abbrev pub sampled : ℕ → Bool → ℕ → Request
sampled k b word = sample k b (of_bits binary32 word)

abbrev pub ticks : ℕ → List Case
ticks zero = []
ticks (suc n) = takes tick ++ ticks n

-- reads of several registers, from SWNo n on at this distance: of one byte each, and of four
abbrev pub bytes_from : ℕ → ℕ → Bits → List ℕ → List Case
bytes_from n by b [] = []
bytes_from n by b (x ∷ xs) = reads n (one x) b ++ bytes_from (n + by) by b xs

abbrev pub words_from : ℕ → ℕ → Bits → List ℕ → List Case
words_from n by b [] = []
words_from n by b (x ∷ xs) = reads n (four x) b ++ words_from (n + by) by b xs

-- ---- what the rules answer, call after call
abbrev pub call_in : Case → Request
call_in c = c.call

abbrev pub answer_in : Case → Answer
answer_in c = c.answer

unfoldable pub played : Module → List Request → List Answer
played m [] = []
played m (x ∷ xs) = let s = step m x in s.answer ∷ played s.box xs

abbrev pub Plays : Module → List Case → Type 0
Plays m cs = played m (map call_in cs) ≡ map answer_in cs

-- ---- boxes, powered up: ModuleConfig's four bytes, the count of WDPreset, and the channels' entries
abbrev pub config_of : ℕ → Config
config_of n = record { enablebit = n / 16777216; functions = n / 65536 % 256; ref_a = n / 256 % 256; ref_b = n % 256 }

abbrev pub box_of : ℕ → ℕ → List Entry → Module
box_of g preset es = powered_up (record { module_config = config_of g; wd_preset = timer (pos preset); entries = es; data_kept = zero_data })

-- an entry: ChConfig's four bytes, the counts of FBPreset and OutPreset, MinCurrent and MaxCurrent; the other registers 0
abbrev pub limited : ℕ → ℕ → ℕ → ℕ → ℕ → Entry
limited g fb out low high =
    record {
      config = config_of g;
      fb_preset = timer (pos fb);
      out_preset = timer (pos out);
      min = of_bits binary32 low;
      max = of_bits binary32 high;
      reals = replicate 8 0;
      maintenance = replicate 4 0;
      user = replicate 4 0;
      counter = pos 0;
      operating = record { 0 = 0 };
    }

abbrev pub entry : ℕ → ℕ → ℕ → Entry
entry g fb out = limited g fb out 0 0

abbrev pub no_entry : Entry
no_entry = entry 0 0 0

-- one whose values are told apart
abbrev pub own_entry : Entry
own_entry =
    record {
      config = config_of 0x0010_0203;
      fb_preset = timer (pos 0x0005_0607);
      out_preset = timer (pos 0x0009_0A0B);
      min = of_bits binary32 0x3E00_0000;
      max = of_bits binary32 0x3F00_0000;
      reals = words (0xC1C2_C3C4 ∷ 0xC5C6_C7C8 ∷ []);
      maintenance = four 0xD1D2_D3D4;
      user = four 0x5152_5354;
      counter = pos 0x0102_0304;
      operating = record { 0 = 0x000A_0B0C };
    }

-- outputs 1, 5, 8 and 16, a one-shot 2, a duty cycle 4 and a timer 6; inputs 3 and 7, of which 7 is simulated, as 2 and 6 are
abbrev pub wire_box : Module
wire_box =
    box_of 0x8100_8283 258
    (own_entry ∷ entry 0x0120_0300 40 100 ∷ entry 0x0000_0000 24 0 ∷ entry 0x0430_0000 32 0 ∷ entry 0x4010_0006 48 0 ∷ entry 0x4150_0100 56 0 ∷ entry
    0x0100_0000 72 0 ∷ entry 0xBA10_0810 64 0 ∷ (replicate 7 no_entry ++ (entry 0x0010_1001 80 0 ∷ [])))
