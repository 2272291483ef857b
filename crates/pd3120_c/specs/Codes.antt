-- An answer in one number, and what each exported call leaves in the caller's memory. Definitions only.
use Rattle.std.specs.Prelude.{◌≡◌, Bool, cond, List, ℕ, ◌+◌, ◌*◌, ◌/◌, ◌%◌, ◌<◌, length, take, Result, Ok, Err}
use Rattle.model.specs.declared.Module.{Module}
use Rattle.model.specs.declared.Refusal.{Refusal}
use Rattle.model.specs.Questions.{Reply, refusal_number, number_of, length_of}
use Rattle.model.specs.Calls.{tick, Answer, Stepped, step, power_up, power_up_answer, store_answer}
use Rattle.model.specs.Image.{setup_of, encode, image_size}
use Rattle.model.specs.Images.{Reached, PowersUpTo}
use Rattle.model.specs.TwoLists.{LearnsNothing}
use Rattle.model.specs.Runs.{RunsAddUp}

-- ---- codes: bits 0 to 7 the number, bits 8 to 23 the length, bit 24 DataError, bit 25 GeneralError
abbrev pub packed : ℕ → ℕ → Bool → Bool → ℕ
packed number size data_error general_error = number + size * 256 + cond data_error 16777216 0 + cond general_error 33554432 0

-- a lookup's: bits 0 to 31 those of its Real, bits 32 to 39 the number
abbrev pub packed_level : ℕ → ℕ → ℕ
packed_level number bits = bits + number * 4294967296

-- the parts are found again, so a code stands for one answer
pub record Unpacks : Type 0 where
  pub number : (n s : ℕ) (d g : Bool) → n < 256 → packed n s d g % 256 ≡ n
  pub size : (n s : ℕ) (d g : Bool) → n < 256 → s < 65536 → packed n s d g / 256 % 65536 ≡ s
  pub data_error : (n s : ℕ) (d g : Bool) → n < 256 → s < 65536 → packed n s d g / 16777216 % 2 ≡ cond d 1 0
  pub general_error : (n s : ℕ) (d g : Bool) → n < 256 → s < 65536 → packed n s d g / 33554432 ≡ cond g 1 0
  pub level_number : (n b : ℕ) → b < 4294967296 → packed_level n b / 4294967296 ≡ n
  pub level_bits_lem : (n b : ℕ) → b < 4294967296 → packed_level n b % 4294967296 ≡ b

abbrev pub reply_code : Reply → Bool → Bool → ℕ
reply_code r data_error general_error = packed (number_of r) (length_of r) data_error general_error

abbrev pub answer_code : Answer → ℕ
answer_code a = packed a.number a.length a.data_error a.general_error

-- of a lookup that gives the bits of its Real, or is refused
abbrev pub level_code : Result ℕ Refusal → ℕ
level_code (Ok bits) = packed_level 0 bits
level_code (Err why) = packed_level (refusal_number why) 0

abbrev pub look_up_code : Answer → ℕ
look_up_code a = packed_level a.number a.real_bits

-- ---- what the caller has after a call: m' in its module, code as the answer, lent' in its buffer
abbrev pub Left : Stepped → Module → ℕ → Type 0
Left s m' code = (m' ≡ s.box) × (code ≡ answer_code s.answer)

abbrev pub LeftLent : Stepped → Module → ℕ → List ℕ → Type 0
LeftLent s m' code lent' = Left s m' code × (lent' ≡ s.answer.buffer)

-- a tick answers nothing
abbrev pub Ticked : Module → Module → Type 0
Ticked m m' = m' ≡ (step m tick).box

-- power-up, with the claim that short runs add up in the module that it leaves; and of an accepted image demand 3 for that module, that it is stored again as the
-- same bytes where it has the length that is stored, and that what is stored of it powers up to the same module, whatever its length
pub record PoweredUp (img : List ℕ) (m' : Module) (code : ℕ) : Type 0 where
  pub left : Left (record { answer = power_up_answer img; box = power_up img }) m' code
  pub runs_add_up : RunsAddUp m'
  pub learns_nothing : (power_up_answer img).number ≡ 0 → LearnsNothing m'
  pub stored_again : (power_up_answer img).number ≡ 0 → length img ≡ image_size → encode (setup_of m') ≡ img
  pub renewed : (power_up_answer img).number ≡ 0 → power_up (encode (setup_of m')) ≡ m'

-- storing changes the buffer alone; of a module that calls from a power-up reached, what is stored powers up to the kept values
pub record Stored (m : Module) (lent : List ℕ) (code : ℕ) (lent' : List ℕ) : Type 0 where
  pub code_is : code ≡ answer_code (store_answer m lent)
  pub buffer_is : lent' ≡ (store_answer m lent).buffer
  pub powers_up : Reached m → (store_answer m lent).number ≡ 0 → PowersUpTo m (take image_size lent')
