-- What a read leaves of the box, and that its two parts, put back, are that box. Assumes nothing.
use Rattle.std.specs.Prelude.{Ok, Err}
use mathlib.Core.Path.{◌≡◌, refl}
use mathlib.Core.List.{List}
use Prim.Native.Nat.{ℕ, ◌-◌, ◌/◌, ◌<◌}
use native.Mathlib.Omega.{arith}
use lib.ListN.{length, get_or}
use lib.Seq.{get_or-set_same, set-get_or}
use Rattle.model.specs.declared.Module.{Module}
use Rattle.model.specs.Questions.{Reply}
use Rattle.model.specs.State.{nothing, channel_at}
use Rattle.model.specs.Registers.{Place, place, service, digital, common, data_channel, unlisted}
use Rattle.model.specs.Reads.{digital_read, after_read}
use Rattle.model.specs.Calls.{read_leaves}
use Rattle.model.specs.Questions.{read_reply}
use Rattle.registers.specs.Places.{slot_of, OfChannel}
use Rattle.registers.proofs.Laws.{slot-of, slot-fits}
use Rattle.reads.specs.Left.{service_left, channel_left}
use Rattle.reads.specs.Reading.{put_back, reading_of}

-- ---- the two parts of the box after a read that is accepted
pub service-left : (p : Place) (m : Module) → service_left p m.service ≡ (after_read p m).service
unfolding after_read
service-left (service r) m = refl
service-left (digital k r) m = refl
service-left (common r) m = refl
service-left (data_channel r) m = refl
service-left unlisted m = refl

pub channel-left : (p : Place) (i : ℕ) (m : Module) → OfChannel i p → i < length m.channels
    → channel_left p (get_or m.channels i nothing) ≡ get_or (after_read p m).channels i nothing
unfolding after_read
channel-left (service r) i m o h = refl
channel-left (digital k r) i m o h =
    let l : k - 1 < length m.channels = omega arith in
    rw (o, get_or-set_same m.channels (k - 1) (digital_read r (channel_at m k)) nothing l)
channel-left (common r) i m o h = refl
channel-left (data_channel r) i m o h = refl
channel-left unlisted i m o h = refl

-- ---- put back, they are the box
after-back : (p : Place) (i : ℕ) (m : Module) → OfChannel i p → i < length m.channels
    → put_back (after_read p m).service i (get_or (after_read p m).channels i nothing) m ≡ after_read p m
unfolding after_read
after-back (service r) i m o h = rw (set-get_or m.channels i nothing)
after-back (digital k r) i m o h =
    let l : k - 1 < length m.channels = omega arith in
    rw (o, get_or-set_same m.channels (k - 1) (digital_read r (channel_at m k)) nothing l)
after-back (common r) i m o h = rw (set-get_or m.channels i nothing)
after-back (data_channel r) i m o h = rw (set-get_or m.channels i nothing)
after-back unlisted i m o h = rw (set-get_or m.channels i nothing)

leaves-back : (r : Reply) (p : Place) (i : ℕ) (m : Module) → OfChannel i p → i < length m.channels
    → put_back (read_leaves r p m).service i (get_or (read_leaves r p m).channels i nothing) m ≡ read_leaves r p m
leaves-back (Ok n) p i m o h = after-back p i m o h
leaves-back (Err w) p i m o h = rw (set-get_or m.channels i nothing)

pub put-back : (m : Module) (n : ℕ) (lent : List ℕ) → length m.channels ≡ 16
    → put_back (reading_of m n lent).service (slot_of (n / 16)) (reading_of m n lent).channel m ≡ read_leaves (read_reply n (place n) lent) (place n) m
unfolding reading_of
put-back m n lent l = leaves-back (read_reply n (place n) lent) (place n) (slot_of (n / 16)) m (slot-of n) (rw l (slot-fits (n / 16)))
