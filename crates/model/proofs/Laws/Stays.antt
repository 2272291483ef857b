-- What calls leave: every call the number of channels; and a call of a channel c any part of what decides its InFlag, Counter, operating time and windows (Inputs)
-- that the rules which the call runs leave. Assumes nothing.
use Rattle.std.specs.Prelude.{Ok, Err}
use mathlib.Core.Path.{◌≡◌, refl, sym, ◌∙◌, ap}
use mathlib.Core.Bool.{Bool}
use mathlib.Core.List.{List}
use Prim.Native.Nat.{ℕ, ◌+◌, ◌-◌, ◌*◌, ◌/◌, ◌≤◌}
use native.Mathlib.Omega.{arith}
use lib.ListN.{length, get_or, length-set, length-map}
use Rattle.model.specs.declared.Channel.{Channel}
use Rattle.model.specs.declared.Module.{Module}
use Rattle.model.specs.Questions.{Reply}
use Rattle.model.specs.declared.ServiceRegister.{ServiceRegister}
use Rattle.model.specs.declared.DigitalRegister.{DigitalRegister}
use Rattle.model.specs.declared.CommonRegister.{CommonRegister}
use Rattle.model.specs.State.{nothing, channel_at, put_channel, write_enable_of, wd_timer_of}
use Rattle.model.specs.Registers.{Place, service, digital, common, data_channel, unlisted, place, service_row, digital_row}
use Rattle.model.specs.Tick as Tick
use Rattle.model.specs.Reads as Reads
use Rattle.model.specs.Writes as Writes
use Rattle.model.specs.Questions as Questions
use Rattle.model.specs.Calls.{Request, read, write, sample, look_up, minute, windows, tick, step, cleared, watchdog_preset, read_leaves, write_leaves}
use Rattle.model.specs.Calls.{sample_leaves, minute_leaves}
use Rattle.model.proofs.Laws.Lists.{length-each, kept_map, kept-each, kept_set}
use Rattle.model.proofs.Laws.Places.{place-cases}
use Rattle.model.proofs.Laws.Inputs.{Inputs, inputs, tick-in, in-tick}
use Rattle.model.proofs.Laws.InputRegisters.{write-in, in-written, in-read, every_in, in-every, common-in, in-common}

-- ---- the channels are as many as before
abbrev size : Module → ℕ
size m = length m.channels

read-size : (r : Reply) (p : Place) (m : Module) → size (read_leaves r p m) ≡ size m
unfolding Reads.after_read
read-size (Ok n) (service r) m = refl
read-size (Ok n) (digital k r) m = length-set m.channels (k - 1) _
read-size (Ok n) (common r) m = refl
read-size (Ok n) (data_channel r) m = refl
read-size (Ok n) unlisted m = refl
read-size (Err q) p m = refl

write-size : (r : Reply) (p : Place) (bs : List ℕ) (m : Module) → size (write_leaves r p bs m) ≡ size m
unfolding Writes.written
write-size (Ok n) (service r) bs m = length-map m.channels (Writes.every_written r)
write-size (Ok n) (digital k r) bs m = length-set m.channels (k - 1) _
write-size (Ok n) (common r) bs m = length-each (Writes.common_written r bs) 0 m.channels
write-size (Ok n) (data_channel r) bs m = refl
write-size (Ok n) unlisted bs m = refl
write-size (Err q) p bs m = refl

sample-size : (r : Reply) (k : ℕ) (ch : Channel) (m : Module) → size (sample_leaves r k ch m) ≡ size m
sample-size (Ok n) k ch m = length-set m.channels (k - 1) ch
sample-size (Err q) k ch m = refl

minute-size : (r : Reply) (n : ℕ) (m : Module) → size (minute_leaves r n m) ≡ size m
minute-size (Ok q) n m = refl
minute-size (Err q) n m = refl

pub step-size : (m : Module) (x : Request) → size (step m x).box ≡ size m
unfolding step cleared watchdog_preset Tick.ticked
step-size m (read n lent) = read-size (Questions.read_reply n (place n) lent) (place n) (cleared m)
step-size m (write n bs) = write-size (Questions.write_reply (write_enable_of m.shared) n (place n) bs) (place n) bs (cleared m)
step-size m (sample k b x) = sample-size (Questions.sample_reply k x) k _ m
step-size m (look_up k x) = refl
step-size m (minute n) = minute-size (Questions.minute_reply n) n m
step-size m (windows k ws) = sample-size (Questions.windows_reply k ws) k _ m
step-size m tick = length-map m.channels _

-- ---- a part of channel c
module _ {A : Type 0} (part : Inputs → A) (c : ℕ) where
  abbrev pub part_at : Module → A
  part_at m = part (inputs (channel_at m c))

  module _ (m : Module) where
    abbrev Same : Channel → Type 0
    Same ch = part (inputs ch) ≡ part_at m

    -- channel k put anew by a rule that leaves the part where k is c
    pub put-stays : (k : ℕ) (f : Channel → Channel) → (k - 1 ≡ c - 1 → (ch : Channel) → part (inputs (f ch)) ≡ part (inputs ch))
        → part_at (put_channel k (f (channel_at m k)) m) ≡ part_at m
    put-stays k f h =
        kept_set Same (f (channel_at m k)) m.channels (k - 1) (c - 1)
        (λ e. h (sym e) (channel_at m k) ∙ ap (λ (j : ℕ). part (inputs (get_or m.channels j nothing))) (sym e)) refl

    pub sample-stays : (r : Reply) (k : ℕ) (f : Channel → Channel) → (k - 1 ≡ c - 1 → (ch : Channel) → part (inputs (f ch)) ≡ part (inputs ch))
        → part_at (sample_leaves r k (f (channel_at m k)) m) ≡ part_at m
    sample-stays (Ok n) k f h = put-stays k f h
    sample-stays (Err q) k f h = refl

    pub minute-stays : (r : Reply) (n : ℕ) → part_at (minute_leaves r n m) ≡ part_at m
    minute-stays (Ok q) n = refl
    minute-stays (Err q) n = refl

    pub read_stays : (r : Reply) (n : ℕ) → part_at (read_leaves r (place n) m) ≡ part_at m
    unfolding Reads.after_read
    read_stays (Ok q) n =
        place-cases (λ p. part_at (Reads.after_read p m) ≡ part_at m) n refl (λ e r q. refl) (λ e r q. refl) (λ e r q. refl)
        (λ l₁ l₂ r q. put-stays (n / 16) (Reads.digital_read r) (λ e ch. ap part (in-read r ch)))
    read_stays (Err q) n = refl

    -- an accepted write of SWNo n, where the registers that n can name leave the part
    pub written-stays : 1 ≤ c → (n : ℕ) (bs : List ℕ)
        → ((r : ServiceRegister) → n ≡ (service_row r).number → (x : Inputs) → part (every_in r x) ≡ part x)
        → ((r : DigitalRegister) → n ≡ c * 0x10 + (digital_row r).number → (x : Inputs) → part (write-in r (write_enable_of m.shared) bs x) ≡ part x)
        → ((r : CommonRegister) (i : ℕ) (x : Inputs) → part (common-in r bs i x) ≡ part x)
        → part_at (Writes.written (place n) bs m) ≡ part_at m
    unfolding Writes.written
    written-stays 1≤c n bs hs hd hc =
        place-cases (λ p. part_at (Writes.written p bs m) ≡ part_at m) n refl
        (λ e r q. kept_map Same (Writes.every_written r)
        (λ ch h. ap part (in-every r ch) ∙ hs r (omega (arith, e, q)) (inputs ch) ∙ h) m.channels (c - 1) refl)
        (λ e r q. kept-each Same (Writes.common_written r bs)
        (λ i ch h. ap part (in-common r bs i ch) ∙ hc r i (inputs ch) ∙ h) 0 m.channels (c - 1) refl)
        (λ e r q. refl)
        (λ l₁ l₂ r q. put-stays (n / 16) (Writes.digital_written r m.shared bs)
        (λ e ch. ap part (in-written r m.shared bs ch) ∙ hd r (omega (arith, e, q, l₁, 1≤c)) (inputs ch)))

    pub ticked-stays : ((due : Bool) (x : Inputs) → part (tick-in due x) ≡ part x) → part_at (Tick.ticked m) ≡ part_at m
    unfolding Tick.ticked
    ticked-stays h =
        let s = Tick.tick_shared m.shared in
        let due = Tick.save_due m.shared in
        let out = Tick.runs_out m.shared (wd_timer_of m.service) in
        kept_map Same (Tick.channel_ticked s out due (Tick.levels m)) (λ ch q. ap part (in-tick s due (Tick.levels m) out ch) ∙ h due (inputs ch) ∙ q) m.channels (c - 1) refl
