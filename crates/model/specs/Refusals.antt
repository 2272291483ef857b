-- Demand 1: a number is given exactly where its question is the first whose answer is no, 0 exactly where all are yes, and a refused call leaves the lent buffer
-- and the box as document 01 says (Questions 16 and 17). The proof is in proofs/Refusals.antt.
use Rattle.std.specs.Prelude.{◌≡◌, Bool, true, false, List, [], ◌∷◌, ◌++◌, ℕ, suc, pos, replicate, set, Float}
use Rattle.std.specs.Float.{binary32}
use Rattle.std.specs.Float.Ieee.{of_bits}
use Rattle.std.specs.Float.Ieee.Scale.{finite}
use Rattle.counts.specs.Counts.{timer}
use Rattle.model.specs.declared.Module.{Module}
use Rattle.model.specs.State.{config, write_enable_of}
use Rattle.model.specs.Hours.{window}
use Rattle.model.specs.Errors.{data_error_of, general_error_of}
use Rattle.model.specs.Registers.{place}
use Rattle.model.specs.Image.{size_right, counts_right, sum_right, values_allowed, encode}
use Rattle.model.specs.Restored.{powered_up, zero_setup}
use Rattle.model.specs.Questions.{question1, question2, question3, question4, question5, question6, question7, question8, question9, question14}
use Rattle.model.specs.Questions.{question15, question18, question19, are_minutes}
use Rattle.model.specs.Calls.{Request, read, write, sample, look_up, minute, windows, Sort, a_tick, a_read, a_write, a_local_call, sort_of, Stepped, step}
use Rattle.model.specs.Calls.{cleared, watchdog_preset, power_up, power_up_answer, store_answer}
use Rattle.model.specs.Images.{zero_data}

-- ---- which number is given
-- a question by its number, and whether its answer is yes
pub record Asked : Type 0 where
  pub number : ℕ
  pub yes : Bool

infix 20 ◌asks◌
abbrev pub ◌asks◌ : ℕ → Bool → Asked
n asks b = record { number = n; yes = b }

abbrev pub AllYes : List Asked → Type 0
AllYes [] = Unit {0}
AllYes (q ∷ qs) = (q.yes ≡ true) × AllYes qs

-- question n is the first whose answer is no
pub record FirstNo (qs : List Asked) (n : ℕ) : Type 0 where
  pub before : List Asked
  pub question : Asked
  pub after : List Asked
  pub order : qs ≡ before ++ (question ∷ after)
  pub yes : AllYes before
  pub no : question.yes ≡ false
  pub is : question.number ≡ n

-- the number that questions decide
pub record Decides (qs : List Asked) (number : ℕ) : Type 0 where
  pub refused : (n : ℕ) → FirstNo qs n → number ≡ n
  pub only : (n : ℕ) → number ≡ suc n → FirstNo qs (suc n)
  pub done : AllYes qs → number ≡ 0
  pub all : number ≡ 0 → AllYes qs

-- each kind of call with its questions, by their numbers and in the paper's order
pub record Decided : Type 0 where
  pub reads : (m : Module) (n : ℕ) (lent : List ℕ) →
      Decides ((1 asks question1 n) ∷ (2 asks question2 (place n)) ∷ (5 asks question5 (place n) lent) ∷ []) (step m (read n lent)).answer.number
  pub writes : (m : Module) (n : ℕ) (bs : List ℕ) →
      Decides
      ((1 asks question1 n) ∷ (2 asks question2 (place n)) ∷ (3 asks question3 (place n)) ∷ (4 asks question4 (place n) bs)
      ∷ (6 asks question6 (write_enable_of m.shared) (place n)) ∷ (7 asks question7 (place n) bs) ∷ [])
      (step m (write n bs)).answer.number
  -- Change 3, 3
  pub samples : (m : Module) (k : ℕ) (b : Bool) (x : Float) → Decides ((8 asks question8 k) ∷ (9 asks question9 x) ∷ []) (step m (sample k b x)).answer.number
  -- Change 1, 14
  pub look_ups : (m : Module) (k : ℕ) (x : Float) → Decides ((15 asks question15 k) ∷ (7 asks finite x) ∷ []) (step m (look_up k x)).answer.number
  -- Change 6, 6 and 7
  pub minutes : (m : Module) (n : ℕ) → Decides ((18 asks question18 n) ∷ []) (step m (minute n)).answer.number
  pub windows_calls : (m : Module) (k : ℕ) (ws : List ℕ) →
      Decides ((8 asks question8 k) ∷ (19 asks question19 ws) ∷ (18 asks are_minutes ws) ∷ []) (step m (windows k ws)).answer.number
  pub power_ups : (img : List ℕ) →
      Decides ((10 asks size_right img) ∷ (11 asks counts_right img) ∷ (12 asks sum_right img) ∷ (13 asks values_allowed img) ∷ []) (power_up_answer img).number
  pub stores : (m : Module) (lent : List ℕ) → Decides ((14 asks question14 lent) ∷ []) (store_answer m lent).number

-- ---- what a refused call leaves and answers beside its number
-- a wire call only its clearing and its preset, with the two bits as they stand after the clearing; any other call nothing
abbrev pub wire_refused : Module → ℕ → List ℕ → Stepped
wire_refused m n lent =
    let c = cleared m in
    record {
      answer = record { number = n; length = 0; buffer = lent; data_error = data_error_of c; general_error = general_error_of c; real_bits = 0 };
      box = watchdog_preset c;
    }

abbrev pub plainly_refused : Module → ℕ → Stepped
plainly_refused m n = record { answer = record { number = n; length = 0; buffer = []; data_error = false; general_error = false; real_bits = 0 }; box = m }

abbrev pub refused_by : Sort → Module → ℕ → Stepped
refused_by a_tick m n = plainly_refused m n
refused_by (a_read o lent) m n = wire_refused m n lent
refused_by (a_write k bs) m n = wire_refused m n []
refused_by (a_local_call o) m n = plainly_refused m n

pub record Refusals : Type 0 where
  pub decided : Decided
  pub unchanged : (m : Module) (x : Request) (n : ℕ) → (step m x).answer.number ≡ suc n → step m x ≡ refused_by (sort_of x) m (suc n)
  -- a refused power-up gives the box of all-zero settings; a refused storing answers no length and leaves the buffer
  pub start : (img : List ℕ) (n : ℕ) → (power_up_answer img).number ≡ suc n → power_up img ≡ powered_up zero_setup
  pub store : (m : Module) (lent : List ℕ) (n : ℕ) → (store_answer m lent).number ≡ suc n →
      store_answer m lent ≡ record { number = suc n; length = 0; buffer = lent; data_error = false; general_error = false; real_bits = 0 }

-- ---- an instance of every number, most of them where a later question is answered no too
abbrev pub writes : Module → ℕ → List ℕ → ℕ
writes m n bs = (step m (write n bs)).answer.number

abbrev pub reads : Module → ℕ → List ℕ → ℕ
reads m n lent = (step m (read n lent)).answer.number

-- a box just powered up, on which WriteEnable is FALSE; and with WriteEnable
abbrev pub enabled : Module → Module
enabled m = (step m (write 0x0D (1 ∷ []))).box

-- images: one that is accepted, and one whose ModuleConfig has other Functions
abbrev pub image_with : ℕ → List ℕ
image_with functions = encode (record { module_config = config 0 functions 0 0; wd_preset = timer (pos 0); entries = zero_setup.entries; data_kept = zero_data })

pub record InOrder : Type 0 where
  pub number1 : (m : Module) → writes m 0x140 [] ≡ 1
  pub number2 : (m : Module) → writes m 0x1E [] ≡ 2
  pub number3 : (m : Module) → writes m 0x1F [] ≡ 3
  pub number4 : writes (powered_up zero_setup) 0x19 [] ≡ 4
  pub number5 : (m : Module) → reads m 0x1F (0 ∷ 0 ∷ 0 ∷ []) ≡ 5
  pub number6 : writes (powered_up zero_setup) 0x19 (0 ∷ 0x77 ∷ 0 ∷ 0 ∷ []) ≡ 6
  pub number7 : writes (enabled (powered_up zero_setup)) 0x19 (0 ∷ 0x77 ∷ 0 ∷ 0 ∷ []) ≡ 7
  pub number8 : (m : Module) → (step m (sample 17 true (of_bits binary32 0))).answer.number ≡ 8
  pub number8_first : (m : Module) → (step m (sample 0 true (of_bits binary32 0x7F80_0000))).answer.number ≡ 8
  pub number9 : (m : Module) → (step m (sample 16 true (of_bits binary32 0x7F80_0000))).answer.number ≡ 9
  pub number10 : (power_up_answer (replicate 885 0)).number ≡ 10
  pub number11 : (power_up_answer (set (image_with 0x10) 0 2)).number ≡ 11
  pub number12 : (power_up_answer (set (image_with 0x10) 2 0x11)).number ≡ 12
  pub number13 : (power_up_answer (image_with 0x11)).number ≡ 13
  pub number14 : (m : Module) → (store_answer m (replicate 885 0)).number ≡ 14
  pub number15 : (m : Module) → (step m (look_up 3 (of_bits binary32 0x7F80_0000))).answer.number ≡ 15
  pub number7_lookup : (m : Module) → (step m (look_up 2 (of_bits binary32 0x7F80_0000))).answer.number ≡ 7
  pub number18 : (m : Module) → (step m (minute 10080)).answer.number ≡ 18
  pub number18_start : (m : Module) → (step m (windows 16 (window 10080 0 ∷ []))).answer.number ≡ 18
  pub number18_end : (m : Module) → (step m (windows 1 (window 10079 0 ∷ window 0 10080 ∷ []))).answer.number ≡ 18
  pub number19 : (m : Module) → (step m (windows 1 (replicate 9 (window 10080 10080)))).answer.number ≡ 19
  pub number8_windows : (m : Module) → (step m (windows 17 (replicate 9 (window 10080 10080)))).answer.number ≡ 8
  pub done_minute : (m : Module) → (step m (minute 10079)).answer.number ≡ 0
  pub done_windows : (m : Module) → (step m (windows 16 (replicate 8 (window 10079 10079)))).answer.number ≡ 0
  pub done_no_windows : (m : Module) → (step m (windows 1 [])).answer.number ≡ 0
  pub number2_first : (m : Module) → writes m 0x12F [] ≡ 2
  pub done : writes (enabled (powered_up zero_setup)) 0x19 (0 ∷ 0x50 ∷ 16 ∷ 16 ∷ []) ≡ 0
  pub done_image : (power_up_answer (image_with 0x10)).number ≡ 0
