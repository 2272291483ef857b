-- What the functions answer that are given parts of a box and give parts back, for every box that has these parts, beside the model's `step`. Definitions only.
use Rattle.std.specs.Prelude.{◌≡◌, Bool, false, Float, List, [], ℕ, ◌/◌, ◌≤◌, length, get_or, set, Result}
use Rattle.model.specs.declared.Channel.{Channel}
use Rattle.model.specs.declared.DataChannel.{DataChannel}
use Rattle.model.specs.declared.Module.{Module}
use Rattle.model.specs.declared.Outcome.{Outcome}
use Rattle.model.specs.declared.Refusal.{Refusal}
use Rattle.model.specs.declared.Service.{Service}
use Rattle.model.specs.declared.Shared.{Shared}
use Rattle.model.specs.State.{data_channel_of, nothing, with_shared, with_channels}
use Rattle.model.specs.Calls.{read, write, sample, look_up, minute, windows, Stepped, answer_of, wire_answer, step}
use Rattle.errors.specs.declared.words.Words.{Words}
use Rattle.errors.specs.Words.{words_of}
use Rattle.registers.specs.Places.{slot_of}
use Rattle.reads.specs.Reading.{put_back}
use Rattle.writes.specs.declared.Begun.{Begun}
use Rattle.writes.specs.Begun.{data_by, whole_of}
use Rattle.pd3120.specs.declared.Changed.{Changed}
use Rattle.pd3120.specs.Answers.{look_up_of}

-- m is a box of sixteen channels with the records s and v, and with the channel ch at place i, counted from 0
pub record Has (s : Shared) (v : Service) (ch : Channel) (i : ℕ) (m : Module) : Type 0 where
  pub shared_is : m.shared ≡ s
  pub service_is : m.service ≡ v
  pub sixteen : length m.channels ≡ 16
  pub channel_is : get_or m.channels i nothing ≡ ch

-- a read of SWNo n: the service record and the SWNo's channel, put back in m
abbrev pub read_of : Module → ℕ → Changed → List ℕ → Stepped
read_of m n r buf =
    record {
      answer = answer_of r.reply buf r.bits.data_error r.bits.general_error 0;
      box = put_back r.service (slot_of (n / 16)) r.channel m;
    }

abbrev pub ReadBy : Shared → Service → Channel → DataChannel → Words → ℕ → List ℕ → Changed → List ℕ → Type 0
ReadBy s v ch d w n lent r buf =
    (m : Module) → Has s v ch (slot_of (n / 16)) m → data_channel_of m ≡ d → w ≡ words_of m.channels → read_of m n r buf ≡ step m (read n lent)

-- a write to SWNo n: its parts, put back in m, the data channel and the first channels, each made anew; the two bits are taken of the box that is then there
abbrev pub write_of : Module → ℕ → List ℕ → Begun → Stepped
write_of m n bs r =
    let after = whole_of r (slot_of (n / 16)) (data_by m.shared n bs (data_channel_of m)) m in
    record { answer = wire_answer r.rest.reply [] after; box = after }

-- and where it does not come to the data channel, that stays
abbrev pub WriteBy : Shared → Service → Channel → ℕ → List ℕ → Begun → Type 0
WriteBy s v ch n bs r =
    (r.rest.count ≤ 16)
    × ((d : DataChannel) → r.rest.of_data ≡ false → data_by s n bs d ≡ d)
    × ((m : Module) → Has s v ch (slot_of (n / 16)) m → write_of m n bs r ≡ step m (write n bs))

-- a lookup in the data channel d of any box
abbrev pub LookedUpBy : DataChannel → ℕ → Float → Result ℕ Refusal → Type 0
LookedUpBy d k x r = (m : Module) → data_channel_of m ≡ d → look_up_of r m ≡ step m (look_up k x)

-- a sample for channel k: its channel put back. It looks at no service record
abbrev pub SampleBy : ℕ → Bool → Float → Shared → Channel → Outcome Channel → Type 0
SampleBy k b x s ch r =
    (m : Module) → m.shared ≡ s → get_or m.channels (slot_of k) nothing ≡ ch →
    record { answer = answer_of r.reply [] false false 0; box = with_channels (set m.channels (slot_of k) r.after) m } ≡ step m (sample k b x)

-- the minute: the shared record put back
abbrev pub MinuteBy : ℕ → Shared → Outcome Shared → Type 0
MinuteBy n s r =
    (m : Module) → m.shared ≡ s → record { answer = answer_of r.reply [] false false 0; box = with_shared r.after m } ≡ step m (minute n)

-- windows for channel k: its channel put back. They look at no other part
abbrev pub WindowsBy : ℕ → List ℕ → Channel → Outcome Channel → Type 0
WindowsBy k ws ch r =
    (m : Module) → get_or m.channels (slot_of k) nothing ≡ ch →
    record { answer = answer_of r.reply [] false false 0; box = with_channels (set m.channels (slot_of k) r.after) m } ≡ step m (windows k ws)
