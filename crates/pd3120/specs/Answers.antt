-- What the public functions answer, in the paper's numbers (`answer_of` of the model's Calls), beside the model's `step`, `power_up` and `stored`. Definitions only.
use Rattle.std.specs.Prelude.{◌≡◌, Bool, false, ◌&&◌, List, [], ℕ, length, take, Result, Ok, Err}
use Rattle.model.specs.declared.Call.{Call}
use Rattle.model.specs.declared.Call.TheVariants.{Read, Write, Sample, LookUp, Minute, Windows, Tick}
use Rattle.model.specs.declared.Module.{Module}
use Rattle.model.specs.declared.Outcome.{Outcome}
use Rattle.model.specs.declared.Refusal.{Refusal}
use Rattle.model.specs.Questions.{Reply}
use Rattle.model.specs.declared.Service.{Service}
use Rattle.model.specs.declared.Shared.{Shared}
use Rattle.model.specs.State.{channel_at}
use Rattle.model.specs.Settings.{is_digital, output}
use Rattle.model.specs.Questions.{number_of}
use Rattle.model.specs.Calls.{Request, read, write, sample, look_up, minute, windows, tick, Stepped, answer_of, step, power_up, power_up_answer, store_answer}
use Rattle.model.specs.Image.{setup_of, encode, image_size}
use Rattle.model.specs.Images.{Reached, PowersUpTo}
use Rattle.model.specs.TwoLists.{LearnsNothing}
use Rattle.model.specs.Runs.{RunsAddUp}
use Rattle.pd3120.specs.declared.Answered.{Answered}

-- ---- the step of `step` that an answer says: its numbers, the lent buffer afterwards, and the box
-- of a wire call, and of any call by `call`
abbrev pub step_of : Answered → List ℕ → Stepped
step_of r buf = record { answer = answer_of r.reply buf r.bits.data_error r.bits.general_error r.real_bits; box = r.after }

-- of a sample, and of a call of opening hours
abbrev pub sample_of : Outcome Module → Stepped
sample_of r = record { answer = answer_of r.reply [] false false 0; box = r.after }

-- a sample's as an answer of any call: no bits, and no Real
abbrev pub plain_of : Outcome Module → Answered
plain_of s = record { after = s.after; reply = s.reply; bits = record { data_error = false; general_error = false }; real_bits = 0 }

-- of a lookup in the box m, which gives the bits of its Real or is refused
abbrev pub look_up_of : Result ℕ Refusal → Module → Stepped
look_up_of (Ok bits) m = record { answer = answer_of (Ok 0) [] false false bits; box = m }
look_up_of (Err why) m = record { answer = answer_of (Err why) [] false false 0; box = m }

-- of a tick, which always answers 0
abbrev pub tick_of : Module → Stepped
tick_of after = record { answer = answer_of (Ok 0) [] false false 0; box = after }

-- ---- the clearing and the preset of a wire call
-- r is the service record that f leaves of any box with the record v, and, where f looks at it, the shared record s
abbrev pub RecordBy : (Module → Module) → Service → Service → Type 0
RecordBy f v r = (m : Module) → m.service ≡ v → r ≡ (f m).service

abbrev pub SharedBy : (Module → Module) → Shared → Service → Service → Type 0
SharedBy f s v r = (m : Module) → m.shared ≡ s → m.service ≡ v → r ≡ (f m).service

-- ---- Output of channel k, off where there is none
abbrev pub output_at : Module → ℕ → Bool
output_at m k = is_digital k && output (channel_at m k)

-- ---- any call, as a value with its bytes or its windows beside it
-- the entry of a list that a call and its own slice make
abbrev pub request_of : Call → List ℕ → List ℕ → List ℕ → Request
request_of (Read n) written ws lent = read n lent
request_of (Write n) written ws lent = write n written
request_of (Sample k b x) written ws lent = sample k b x
request_of (LookUp k x) written ws lent = look_up k x
request_of (Minute n) written ws lent = minute n
request_of (Windows k) written ws lent = windows k ws
request_of Tick written ws lent = tick

-- the buffer that its answer has: a read's is the lent one afterwards, any other call has none
abbrev pub answer_buffer : Call → List ℕ → List ℕ
answer_buffer (Read n) lent = lent
answer_buffer (Write n) lent = []
answer_buffer (Sample k b x) lent = []
answer_buffer (LookUp k x) lent = []
answer_buffer (Minute n) lent = []
answer_buffer (Windows k) lent = []
answer_buffer Tick lent = []

-- and the lent buffer, which a read alone changes
abbrev pub lent_after : Call → Module → List ℕ → List ℕ
lent_after (Read n) m lent = (step m (read n lent)).answer.buffer
lent_after (Write n) m lent = lent
lent_after (Sample k b x) m lent = lent
lent_after (LookUp k x) m lent = lent
lent_after (Minute n) m lent = lent
lent_after (Windows k) m lent = lent
lent_after Tick m lent = lent

-- ---- power-up: its answer and the box; of any image, that short runs add up in that very box; and of an accepted one, demand 3 for it, that it is stored again
-- as the same bytes where it has the length that is stored, and that what is stored of it powers up to the same box, whatever its length
pub record PoweredUp (img : List ℕ) (r : Outcome Module) : Type 0 where
  pub answer_is : answer_of r.reply [] false false 0 ≡ power_up_answer img
  pub box_is : r.after ≡ power_up img
  pub runs_add_up : RunsAddUp r.after
  pub learns_nothing : number_of r.reply ≡ 0 → LearnsNothing r.after
  pub stored_again : number_of r.reply ≡ 0 → length img ≡ image_size → encode (setup_of r.after) ≡ img
  pub renewed : number_of r.reply ≡ 0 → power_up (encode (setup_of r.after)) ≡ r.after

-- ---- storing: its answer with the buffer afterwards; and of a reached box, that what was stored powers up to the kept values
pub record StoredBy (m : Module) (lent : List ℕ) (r : Reply) (lent' : List ℕ) : Type 0 where
  pub answer_is : answer_of r lent' false false 0 ≡ store_answer m lent
  pub powers_up : Reached m → number_of r ≡ 0 → PowersUpTo m (take image_size lent')
