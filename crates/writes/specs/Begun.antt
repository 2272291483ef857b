-- A write in two steps: first the shared record, the service record and the SWNo's own channel, then, where the register asks for it, the data channel, and
-- every channel in turn.
-- Those down to `each_written` are the parts of the model's `written`, one by one, for the functions that make one part each; that they are parts of it is shown
-- by `begin`'s contract, `BegunBy`, which is an equation with the model's call. Definitions only.
use Rattle.std.specs.Prelude.{◌≡◌, Bool, true, false, List, ◌++◌, ℕ, ◌/◌, ◌≤◌, ltb, length, get_or, take, drop, set, Ok, Err}
use Rattle.integers.specs.Bytes.{number}
use Rattle.model.specs.declared.Channel.{Channel}
use Rattle.model.specs.declared.Shared.{Shared}
use Rattle.model.specs.declared.Service.{Service}
use Rattle.model.specs.declared.DataChannel.{DataChannel}
use Rattle.model.specs.declared.Module.{Module}
use Rattle.model.specs.Questions.{Reply}
use Rattle.model.specs.declared.ServiceRegister.{ServiceRegister}
use Rattle.model.specs.declared.ServiceRegister.TheVariants.{Highest, Reset, FreeRunTimer, WDTimer, ModuleConfig, WDPreset, WriteEnable, CommonError}
use Rattle.model.specs.State.{write_enable_of, data_channel_of, module_of, nothing}
use Rattle.model.specs.Settings.{bit}
use Rattle.model.specs.Registers.{Place, service, digital, common, data_channel, unlisted, place}
use Rattle.model.specs.Writes.{shared_written, errors_written, every_written, data_reset, digital_written, bit_written, data_written, each}
use Rattle.model.specs.Questions.{write_reply}
use Rattle.registers.specs.Places.{placed, slot_of}
use Rattle.writes.specs.declared.Begun.{Begun}
use Rattle.writes.specs.declared.Rest.{Rest}
use Rattle.writes.specs.Accepted.{write_of}

-- ---- the first step of an accepted write, by the place of its register
abbrev pub shared_after : Place → List ℕ → Shared → Shared
shared_after (service r) bs s = shared_written r bs s
shared_after (digital k r) bs s = s
shared_after (common r) bs s = s
shared_after (data_channel r) bs s = s
shared_after unlisted bs s = s

abbrev pub service_after : Place → Service → Service
service_after (service r) v = errors_written r v
service_after (digital k r) v = v
service_after (common r) v = v
service_after (data_channel r) v = v
service_after unlisted v = v

abbrev pub channel_after : Place → Shared → List ℕ → Channel → Channel
channel_after (service r) s bs ch = ch
channel_after (digital k r) s bs ch = digital_written r s bs ch
channel_after (common r) s bs ch = ch
channel_after (data_channel r) s bs ch = ch
channel_after unlisted s bs ch = ch

-- ---- the data channel: of an accepted write; of one that is done or refused; and of a write of bs to SWNo n
abbrev pub data_after : Place → Shared → List ℕ → DataChannel → DataChannel
data_after (service r) s bs d = data_reset r d
data_after (digital k r) s bs d = d
data_after (common r) s bs d = d
data_after (data_channel r) s bs d = data_written r s bs d
data_after unlisted s bs d = d

abbrev pub data_left : Reply → Place → Shared → List ℕ → DataChannel → DataChannel
data_left (Ok k) p s bs d = data_after p s bs d
data_left (Err q) p s bs d = d

unfoldable pub data_by : Shared → ℕ → List ℕ → DataChannel → DataChannel
data_by s n bs d = data_left (write_reply (write_enable_of s) n (place n) bs) (place n) s bs d

-- ---- the second: how many channels it comes to, from the first, with which word, and what it does to the channel at place i
abbrev pub service_count : ServiceRegister → ℕ
service_count Highest = 0
service_count Reset = 16
service_count FreeRunTimer = 0
service_count WDTimer = 0
service_count ModuleConfig = 0
service_count WDPreset = 0
service_count WriteEnable = 0
service_count CommonError = 16

abbrev pub count_of : Place → ℕ
count_of (service r) = service_count r
count_of (digital k r) = 0
count_of (common r) = 16
count_of (data_channel r) = 0
count_of unlisted = 0

-- whether it comes to the data channel: a data register does, and a service register that comes to every channel may
abbrev pub of_data_of : Place → Bool
of_data_of (service r) = ltb 0 (service_count r)
of_data_of (digital k r) = false
of_data_of (common r) = false
of_data_of (data_channel r) = true
of_data_of unlisted = false

abbrev pub written_word : Place → List ℕ → ℕ
written_word (service r) bs = 0
written_word (digital k r) bs = 0
written_word (common r) bs = number bs
written_word (data_channel r) bs = 0
written_word unlisted bs = 0

abbrev pub each_written : Place → ℕ → ℕ → Channel → Channel
each_written (service r) w i ch = every_written r ch
each_written (digital k r) w i ch = ch
each_written (common r) w i ch = bit_written r (bit i w) ch
each_written (data_channel r) w i ch = ch
each_written unlisted w i ch = ch

-- the first n channels with f of their place, the others as they are
abbrev pub first_each : (ℕ → Channel → Channel) → ℕ → List Channel → List Channel
first_each f n cs = each f 0 (take n cs) ++ drop n cs

-- ---- the box m when both steps are done; i is the place of the SWNo's own channel, and d the data channel
abbrev pub whole_of : Begun → ℕ → DataChannel → Module → Module
whole_of b i d m =
    module_of b.shared b.service (first_each (each_written (placed b.rest.place) b.rest.word) b.rest.count (set m.channels i b.channel)) d

-- the first step where its records and its channel were changed in their places
abbrev pub begun_with : Shared → Service → Channel → Rest → Begun
begun_with s v ch r = record { shared = s; service = v; channel = ch; rest = r }

-- r is what a write of bs to SWNo n begins with: in every box of sixteen channels that has these parts, it ends as the write of the whole box does; and where
-- it does not come to the data channel, that stays
abbrev pub BegunBy : Shared → Service → Channel → ℕ → List ℕ → Begun → Type 0
BegunBy s v ch n bs r =
    (r.rest.count ≤ 16)
    × ((d : DataChannel) → r.rest.of_data ≡ false → data_by s n bs d ≡ d)
    × ((m : Module) → m.shared ≡ s → m.service ≡ v → length m.channels ≡ 16 → get_or m.channels (slot_of (n / 16)) nothing ≡ ch
    → record { reply = r.rest.reply; after = whole_of r (slot_of (n / 16)) (data_by s n bs (data_channel_of m)) m } ≡ write_of m n bs)
