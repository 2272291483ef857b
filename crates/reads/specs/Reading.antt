-- What a read answers and leaves. Definitions only.
use Rattle.std.specs.Prelude.{◌≡◌, List, ℕ, ◌/◌, length, get_or, set}
use Rattle.model.specs.declared.Channel.{Channel}
use Rattle.model.specs.declared.Service.{Service}
use Rattle.model.specs.declared.Shared.{Shared}
use Rattle.model.specs.declared.ServiceRegister.{ServiceRegister}
use Rattle.model.specs.declared.DataChannel.{DataChannel}
use Rattle.model.specs.declared.Module.{Module}
use Rattle.model.specs.State.{data_channel_of, module_of, nothing}
use Rattle.model.specs.Registers.{Place, place}
use Rattle.model.specs.Reads.{service_bytes, bytes_read}
use Rattle.model.specs.Calls.{overwritten, read_leaves, read_fills}
use Rattle.model.specs.Questions.{read_reply}
use Rattle.errors.specs.declared.words.Words.{Words}
use Rattle.errors.specs.Words.{words_of, OfWords}
use Rattle.registers.specs.Places.{slot_of, OfChannel}
use Rattle.reads.specs.declared.Reading.{Reading}
use Rattle.reads.specs.declared.buffer.RegisterBytes.{RegisterBytes}
use Rattle.reads.specs.Held.{held}

abbrev pub box_of : Shared → Service → DataChannel → List Channel → Module
box_of s v d cs = module_of s v cs d

-- the box with a service record and one channel anew, the channel counted from 0
abbrev pub put_back : Service → ℕ → Channel → Module → Module
put_back v i ch m = module_of m.shared v (set m.channels i ch) (data_channel_of m)

-- of the box that it leaves, the service record and the SWNo's channel; `put_back` of them is that box (proofs/Back.antt)
unfoldable pub reading_of : Module → ℕ → List ℕ → Reading
reading_of m n lent =
    let r = read_reply n (place n) lent in
    let after = read_leaves r (place n) m in
    record { reply = r; service = after.service; channel = get_or after.channels (slot_of (n / 16)) nothing }

unfoldable pub buffer_of : Module → ℕ → List ℕ → List ℕ
buffer_of m n lent = read_fills (read_reply n (place n) lent) (place n) m lent

-- ---- what is made of parts of the box
-- r, made of the words w and the channel ch, is f of the channels: of any sixteen that show w and have ch at place i, counted from 0
abbrev pub OfParts : {A : Type 0} → (List Channel → A) → ℕ → Words → Channel → A → Type 0
OfParts f i w ch r = (cs : List Channel) → length cs ≡ 16 → w ≡ words_of cs → get_or cs i nothing ≡ ch → r ≡ f cs

-- b is what a service register shows of a box with these parts, whatever its data channel
abbrev pub ServiceHeld : ServiceRegister → Shared → Service → Words → RegisterBytes → Type 0
ServiceHeld r s v w b = (d : DataChannel) → OfWords (λ cs. held (service_bytes r (box_of s v d cs))) w b

-- the buffer is filled with what place p shows of a box with these parts, where ch is the channel that p is of
abbrev pub Filled : Place → Shared → Service → Channel → DataChannel → Words → List ℕ → List ℕ → Type 0
Filled p s v ch d w lent lent' = (i : ℕ) → OfChannel i p → OfParts (λ cs. overwritten (bytes_read p (box_of s v d cs)) lent) i w ch lent'
