-- Document 01, Calls 1 to 8, with Questions 16 to 18 and Setup image 4, and document 02, Change 1, 3, Change 3, 2 to 4, and Change 6, 2, 3 and 5: what each call
-- answers and leaves, for any box, call and buffer; a list of calls; power-up and storing. Definitions only.
use Rattle.std.specs.Prelude.{Bool, false, List, [], ◌∷◌, ◌++◌, ℕ, length, drop, Float, Ok, Err}
use Rattle.model.specs.declared.Channel.{Channel}
use Rattle.model.specs.declared.DataChannel.{DataChannel}
use Rattle.model.specs.declared.Module.{Module}
use Rattle.model.specs.Questions.{Reply}
use Rattle.model.specs.State.{wd_timer_of, wd_preset_of, write_enable_of, with_clock, service_of, data_channel_of, with_shared, with_service_record, with_timetable}
use Rattle.model.specs.State.{channel_at, put_channel}
use Rattle.model.specs.Hours.{clock_at, timetable_of}
use Rattle.model.specs.Channel.{take_sample}
use Rattle.model.specs.Errors.{data_error_of, general_error_of}
use Rattle.model.specs.Registers.{Place, channel_of, place}
use Rattle.model.specs.Lookup.{level_bits}
use Rattle.model.specs.Reads.{bytes_read, after_read}
use Rattle.model.specs.Writes.{written}
use Rattle.model.specs.Tick.{with_run_out, ticked}
use Rattle.model.specs.Image.{setup_of, encode, decode}
use Rattle.model.specs.Restored.{powered_up, zero_setup}
use Rattle.model.specs.Questions.{number_of, length_of, read_reply, write_reply, sample_reply, look_up_reply, minute_reply, windows_reply, power_up_reply, store_reply}

-- ---- Calls 1: a call of a list, with all that it carries (Two lists 6). Change 3, 2: a sample carries a level and a current. Change 6, 2 and 3: a minute of the
-- week; and the windows of a channel, each as one number, its start times 65536 plus its end
pub data Request : Type 0 where
  read : ℕ → List ℕ → Request
  write : ℕ → List ℕ → Request
  sample : ℕ → Bool → Float → Request
  look_up : ℕ → Float → Request
  minute : ℕ → Request
  windows : ℕ → List ℕ → Request
  tick : Request

-- Two lists 3: whose a call is
pub data Owner : Type 0 where
  everyone : Owner
  channel : ℕ → Owner

-- what a call is: a tick; a wire call that lends a buffer; a wire write of a SWNo and its bytes; or a local call. Change 3, 4: a sample is one call of its channel.
-- Change 6, 5: so are the windows of a channel, and setting the minute is a call of everyone
pub data Sort : Type 0 where
  a_tick : Sort
  a_read : Owner → List ℕ → Sort
  a_write : ℕ → List ℕ → Sort
  a_local_call : Owner → Sort

abbrev pub sort_of : Request → Sort
sort_of (read n lent) = a_read (channel (channel_of n)) lent
sort_of (write n bs) = a_write n bs
sort_of (sample k b x) = a_local_call (channel k)
sort_of (look_up k x) = a_local_call everyone
sort_of (minute n) = a_local_call everyone
sort_of (windows k ws) = a_local_call (channel k)
sort_of tick = a_tick

-- ---- Calls 5 and 6: an answer in the paper's numbers. What a call does not answer is 0, empty or FALSE
pub record Answer : Type 0 where
  pub number : ℕ
  pub length : ℕ
  pub buffer : List ℕ
  pub data_error : Bool
  pub general_error : Bool
  -- Change 1, 7: the bits of a lookup's Real
  pub real_bits : ℕ

pub record Stepped : Type 0 where
  pub answer : Answer
  pub box : Module

-- from a reply, whose case gives the number and the length; the buffer afterwards; DataError and GeneralError
abbrev pub answer_of : Reply → List ℕ → Bool → Bool → ℕ → Answer
answer_of r buf d g bits = record { number = number_of r; length = length_of r; buffer = buf; data_error = d; general_error = g; real_bits = bits }

-- of a wire call; the two bits are taken of m
abbrev pub wire_answer : Reply → List ℕ → Module → Answer
wire_answer r buf m = answer_of r buf (data_error_of m) (general_error_of m) 0

-- of every call that is none, but a lookup
abbrev pub plain_answer : Reply → List ℕ → Answer
plain_answer r buf = answer_of r buf false false 0

-- ---- Calls 4: a wire call
-- it clears service Act bit 3 first
unfoldable pub cleared : Module → Module
cleared m = with_service_record (service_of (wd_timer_of m.service) (with_run_out false m.service.act) m.service.his) m

-- and sets WDTimer to WDPreset last
unfoldable pub watchdog_preset : Module → Module
watchdog_preset m = with_service_record (service_of (wd_preset_of m.shared) m.service.act m.service.his) m

abbrev pub then_preset : Stepped → Stepped
then_preset s = record { answer = s.answer; box = watchdog_preset s.box }

-- Questions 18: the lent buffer with an answer's bytes first
abbrev pub overwritten : List ℕ → List ℕ → List ℕ
overwritten bytes lent = bytes ++ drop (length bytes) lent

-- what a read does to the box m after the clearing: the box that it leaves, and the lent buffer
abbrev pub read_leaves : Reply → Place → Module → Module
read_leaves (Ok n) p m = after_read p m
read_leaves (Err r) p m = m

abbrev pub read_fills : Reply → Place → Module → List ℕ → List ℕ
read_fills (Ok n) p m lent = overwritten (bytes_read p m) lent
read_fills (Err r) p m lent = lent

-- Calls 5: its two bits are those before the acknowledgement
abbrev pub read_as : Reply → Place → List ℕ → Module → Stepped
read_as r p lent m = record { answer = wire_answer r (read_fills r p m lent) m; box = read_leaves r p m }

-- the same of a write
abbrev pub write_leaves : Reply → Place → List ℕ → Module → Module
write_leaves (Ok n) p bs m = written p bs m
write_leaves (Err r) p bs m = m

-- Calls 5: its two bits are those after its effect
abbrev pub written_as_of : Reply → Place → List ℕ → Module → Stepped
written_as_of r p bs m = record { answer = wire_answer r [] (write_leaves r p bs m); box = write_leaves r p bs m }

-- ---- Calls 2: a sample for channel k, which makes ch of it; refused, it does neither of its two (Change 3, 3). Windows for channel k alike
abbrev pub sample_leaves : Reply → ℕ → Channel → Module → Module
sample_leaves (Ok n) k ch m = put_channel k ch m
sample_leaves (Err r) k ch m = m

abbrev pub sampled_as : Reply → ℕ → Channel → Module → Stepped
sampled_as r k ch m = record { answer = plain_answer r []; box = sample_leaves r k ch m }

-- ---- Change 1, 3: a lookup in the box m, which it leaves as it is; refused, its Real is 0
abbrev pub looked_up_bits : Reply → ℕ → Float → DataChannel → ℕ
looked_up_bits (Ok n) k x d = level_bits k x d
looked_up_bits (Err r) k x d = 0

abbrev pub looked_up_as : Reply → ℕ → Float → Module → Stepped
looked_up_as r k x m = record { answer = answer_of r [] false false (looked_up_bits r k x (data_channel_of m)); box = m }

-- ---- Change 6, 2: the minute set to n; refused, it stays as it was
abbrev pub minute_leaves : Reply → ℕ → Module → Module
minute_leaves (Ok q) n m = with_shared (with_clock (clock_at n) m.shared) m
minute_leaves (Err r) n m = m

abbrev pub minute_as : Reply → ℕ → Module → Stepped
minute_as r n m = record { answer = plain_answer r []; box = minute_leaves r n m }

-- ---- one call on any box
unfoldable pub step : Module → Request → Stepped
step m (read n lent) = then_preset (read_as (read_reply n (place n) lent) (place n) lent (cleared m))
step m (write n bs) = then_preset (written_as_of (write_reply (write_enable_of m.shared) n (place n) bs) (place n) bs (cleared m))
step m (sample k b x) = sampled_as (sample_reply k x) k (take_sample m.shared b x (channel_at m k)) m
step m (look_up k x) = looked_up_as (look_up_reply k x) k x m
step m (minute n) = minute_as (minute_reply n) n m
step m (windows k ws) = sampled_as (windows_reply k ws) k (with_timetable (timetable_of ws) (channel_at m k)) m
step m tick = record { answer = plain_answer (Ok 0) []; box = ticked m }

-- demand 3: each call gets the box that the last one left
unfoldable pub run : Module → List Request → Module
run m [] = m
run m (x ∷ xs) = run (step m x).box xs

-- ---- Calls 3: power-up and storing
-- Setup image 2 and Questions 17: the box of an image
abbrev pub powered_up_as : Reply → List ℕ → Module
powered_up_as (Ok n) img = powered_up (decode img)
powered_up_as (Err r) img = powered_up zero_setup

unfoldable pub power_up : List ℕ → Module
power_up img = powered_up_as (power_up_reply img) img

unfoldable pub power_up_answer : List ℕ → Answer
power_up_answer img = plain_answer (power_up_reply img) []

-- Setup image 4: the lent buffer with the kept values
abbrev pub store_fills : Reply → List ℕ → Module → List ℕ
store_fills (Ok n) lent m = overwritten (encode (setup_of m)) lent
store_fills (Err r) lent m = lent

unfoldable pub stored : Module → List ℕ → List ℕ
stored m lent = store_fills (store_reply lent) lent m

unfoldable pub store_answer : Module → List ℕ → Answer
store_answer m lent = plain_answer (store_reply lent) (stored m lent)
