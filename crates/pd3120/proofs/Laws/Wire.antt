-- A wire call put together: the clearing first, the preset last, and the two bits where they are taken. Assumes nothing.
use mathlib.Core.Path.{◌≡◌, refl, sym, ap, ◌∙◌}
use mathlib.Core.Bool.{Bool, not}
use mathlib.Core.List.{List, []}
use Prim.Native.Nat.{ℕ, ◌/◌}
use lib.Dec.{eqb}
use Rattle.model.specs.declared.Channel.{Channel}
use Rattle.model.specs.declared.DataChannel.{DataChannel}
use Rattle.model.specs.declared.Module.{Module}
use Rattle.model.specs.declared.Outcome.{Outcome}
use Rattle.model.specs.State.{data_channel_of}
use Rattle.model.specs.Questions.{Reply}
use Rattle.model.specs.declared.Service.{Service}
use Rattle.model.specs.declared.Shared.{Shared}
use Rattle.model.specs.Errors.{has_act, has_his, data_error_of, general_error_of}
use Rattle.model.specs.Calls.{read, write, Stepped, answer_of, wire_answer, cleared, watchdog_preset, step}
use Rattle.errors.specs.declared.words.Words.{Words}
use Rattle.errors.specs.Words.{words_of, OfBoxHas}
use Rattle.errors.proofs.Laws.Words.{any-act, any-his}
use Rattle.registers.specs.Places.{slot_of}
use Rattle.reads.specs.declared.Reading.{Reading}
use Rattle.reads.specs.Reading.{box_of, put_back, reading_of, buffer_of, OfParts}
use Rattle.reads.proofs.Back.{put-back}
use Rattle.writes.specs.declared.Begun.{Begun}
use Rattle.writes.specs.Accepted as Whole
use Rattle.writes.specs.Begun.{data_by, whole_of, BegunBy}
use Rattle.pd3120.specs.declared.WireBits.{WireBits}
use Rattle.pd3120.specs.Answers.{step_of, RecordBy, SharedBy}
use Rattle.pd3120.specs.Parts.{Has, read_of, write_of}

cleared-parts : (m : Module) (s : Shared) (v : Service) (d : DataChannel) → m.shared ≡ s → v ≡ (cleared m).service → data_channel_of m ≡ d
    → box_of s v d m.channels ≡ cleared m
unfolding cleared
cleared-parts m s v d p e q = rw (← p, e, ← q)

pub cleared-box : (m : Module) (v : Service) → v ≡ (cleared m).service → box_of m.shared v (data_channel_of m) m.channels ≡ cleared m
cleared-box m v e = cleared-parts m m.shared v (data_channel_of m) refl e refl

-- a read, from what each of its parts gives
module _ (m : Module) (s : Shared) (v : Service) (ch : Channel) (x : DataChannel) (w : Words) (n : ℕ) (lent : List ℕ) (has : Has s v ch (slot_of (n / 16)) m)
    (xs : data_channel_of m ≡ x) (ws : w ≡ words_of m.channels) (ready : Service) (e : RecordBy cleared v ready)
    (d : Reading) (f : OfParts (λ cs. reading_of (box_of s ready x cs) n lent) (slot_of (n / 16)) w ch d)
    (after : Service) (g : SharedBy watchdog_preset s d.service after) where
  ready-is : ready ≡ (cleared m).service
  ready-is = e m has.service_is

  box : box_of s ready x m.channels ≡ cleared m
  box = cleared-parts m s ready x has.shared_is ready-is xs

  is-reading : d ≡ reading_of (cleared m) n lent
  is-reading = f m.channels has.sixteen ws has.channel_is ∙ ap (λ (b : Module). reading_of b n lent) box

  after_is : after ≡ (watchdog_preset (box_of m.shared d.service x m.channels)).service
  after_is = g (box_of m.shared d.service x m.channels) has.shared_is refl

  box_is : put_back after (slot_of (n / 16)) d.channel m ≡ (step m (read n lent)).box
  unfolding step reading_of cleared watchdog_preset
  box_is = rw (after_is, is-reading) (ap watchdog_preset (put-back (cleared m) n lent has.sixteen))

  module _ (buffer : List ℕ) (h : OfParts (λ cs. buffer_of (box_of s ready x cs) n lent) (slot_of (n / 16)) w ch buffer)
      (act his : Bool) (i : OfBoxHas has_act data_error_of ready (not (eqb w.act 0)) act) (j : OfBoxHas has_his general_error_of ready (not (eqb w.his 0)) his) where
    buffer_is : buffer ≡ buffer_of (cleared m) n lent
    buffer_is = h m.channels has.sixteen ws has.channel_is ∙ ap (λ (b : Module). buffer_of b n lent) box

    answer_is : answer_of d.reply buffer act his 0 ≡ (step m (read n lent)).answer
    unfolding step reading_of buffer_of cleared
    answer_is =
        let b = cleared m in
        rw (i b (sym ready-is) (any-act w m.channels ws), j b (sym ready-is) (any-his w m.channels ws), buffer_is, is-reading)

    pub read_by : read_of m n (record { service = after; channel = d.channel; reply = d.reply; bits = record { data_error = act; general_error = his } }) buffer
        ≡ step m (read n lent)
    read_by = λ k. record { answer = answer_is k; box = box_is k }

-- a write in two steps: the box b that it leaves, with its answer
abbrev answered : Reply → Module → Stepped
answered r b = record { answer = wire_answer r [] b; box = b }

written_as : (m : Module) (n : ℕ) (bs : List ℕ) (r : Reply) → r ≡ (Whole.write_of (cleared m) n bs).reply
    → answered r (watchdog_preset (Whole.write_of (cleared m) n bs).after) ≡ step m (write n bs)
unfolding step cleared watchdog_preset Whole.write_of
written_as m n bs r e = rw e

module _ (m : Module) (s : Shared) (v : Service) (ch : Channel) (n : ℕ) (bs : List ℕ) (has : Has s v ch (slot_of (n / 16)) m) (ready : Service)
    (e : RecordBy cleared v ready) (d : Begun) (f : BegunBy s ready ch n bs d) (after : Service) (g : SharedBy watchdog_preset d.shared d.service after) where
  -- the data channel that it leaves
  abbrev after-data : DataChannel
  after-data = data_by m.shared n bs (data_channel_of m)

  is-written : record { reply = d.rest.reply; after = whole_of d (slot_of (n / 16)) after-data (cleared m) } ≡ Whole.write_of (cleared m) n bs
  unfolding cleared
  is-written =
      ap (λ (t : Shared). record { reply = d.rest.reply; after = whole_of d (slot_of (n / 16)) (data_by t n bs (data_channel_of m)) (cleared m) }) has.shared_is
      ∙ f.2 (cleared m) has.shared_is (sym (e m has.service_is)) has.sixteen has.channel_is

  preset-is : after ≡ (watchdog_preset (whole_of d (slot_of (n / 16)) after-data m)).service
  preset-is = g (whole_of d (slot_of (n / 16)) after-data m) refl refl

  abbrev next : Begun
  next =
      record {
        shared = d.shared;
        service = after;
        channel = d.channel;
        rest = d.rest;
      }

  whole_is : whole_of next (slot_of (n / 16)) after-data m ≡ watchdog_preset (Whole.write_of (cleared m) n bs).after
  unfolding cleared watchdog_preset
  whole_is = rw preset-is (ap (λ (x : Outcome Module). watchdog_preset x.after) is-written)

  reply-is : d.rest.reply ≡ (Whole.write_of (cleared m) n bs).reply
  reply-is = ap (λ (x : Outcome Module). x.reply) is-written

  pub write-by : write_of m n bs next ≡ step m (write n bs)
  write-by = ap (answered d.rest.reply) whole_is ∙ written_as m n bs d.rest.reply reply-is

-- a write of the whole box
pub write-answer : (m : Module) (n : ℕ) (bs : List ℕ) (ready : Module) (d : Outcome Module) (after : Module) (bits : WireBits)
    → ready ≡ cleared m → d ≡ Whole.write_of ready n bs → after ≡ watchdog_preset d.after
    → bits ≡ record { data_error = data_error_of d.after; general_error = general_error_of d.after }
    → step_of (record { after = after; reply = d.reply; bits = bits; real_bits = 0 }) [] ≡ step m (write n bs)
unfolding step Whole.write_of cleared
write-answer m n bs ready d after bits e f g h = rw (g, h, f, e)
