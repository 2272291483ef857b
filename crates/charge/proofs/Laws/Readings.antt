-- The wire read of a Counter: it is done, and its four bytes stand for the count. Assumes nothing.
use Rattle.std.specs.Prelude.{Ok}
use mathlib.Core.Path.{◌≡◌, refl, ap, ◌∙◌}
use mathlib.Core.Bool.{true}
use Prim.Native.Nat.{ℕ, ◌≤◌}
use native.Mathlib.Omega.{arith}
use mir.Syntax.{w32}
use mir.Val.{SFits}
use borrow.Author.Tests.{le-leb}
use Rattle.integers.specs.Bytes.{bytes_of, signed_number, signed_bytes}
use Rattle.integers.proofs.Claims.{come-back}
use Rattle.model.specs.declared.Module.{Module}
use Rattle.model.specs.declared.Refusal.{Refusal}
use Rattle.model.specs.declared.Refusal.TheVariants.{Beyond, Unlisted, NotWritable, WrongLength, BufferTooShort, NotEnabled, NotAllowed}
use Rattle.model.specs.declared.Refusal.TheVariants.{NoChannel, NotFinite, ImageLength, ImageCounts, ImageSum, ImageValues, NoRoom, NoTable, NotMinute, TooManyWindows}
use Rattle.model.specs.Questions.{Reply}
use Rattle.model.specs.declared.DigitalRegister.TheVariants.{Counter}
use Rattle.model.specs.State.{channel_at}
use Rattle.model.specs.Settings.{is_digital}
use Rattle.model.specs.Registers.{Place, digital, place}
use Rattle.model.specs.Reads.{bytes_read, digital_bytes}
use Rattle.model.specs.Questions.{refusal_number, read_reply}
use Rattle.model.specs.Calls.{read, Stepped, then_preset, read_as, step, cleared}
use Rattle.model.proofs.Laws.Tests.{range}
use Rattle.model.proofs.Laws.Places.{digital-place}
use Rattle.charge.specs.Readings.{counter_swno, lent_bytes}

at-counter : (k : ℕ) → is_digital k ≡ true → place (counter_swno k) ≡ digital k Counter
at-counter k d = let (a, b) = range k d in digital-place k a b 2 (omega arith)

answers : (k : ℕ) → is_digital k ≡ true → read_reply (counter_swno k) (place (counter_swno k)) lent_bytes ≡ Ok 4
unfolding read_reply
answers k d =
    let (a, b) = range k d in
    let h : counter_swno k ≤ 0x13F = omega (arith, b) in
    rw (at-counter k d, le-leb (counter_swno k) 0x13F h) refl

pub wire-read : (m : Module) (k : ℕ) → is_digital k ≡ true
    → step m (read (counter_swno k) lent_bytes) ≡ then_preset (read_as (Ok 4) (digital k Counter) lent_bytes (cleared m))
unfolding step
wire-read m k d =
    ap (λ (r : Reply). then_preset (read_as r (place (counter_swno k)) lent_bytes (cleared m))) (answers k d)
    ∙ ap (λ (p : Place). then_preset (read_as (Ok 4) p lent_bytes (cleared m))) (at-counter k d)

pub counter-read : (m : Module) (k : ℕ) → is_digital k ≡ true → SFits w32 (channel_at m k).counter
    → signed_number (step m (read (counter_swno k) lent_bytes)).answer.buffer ≡ (channel_at m k).counter
unfolding cleared bytes_read digital_bytes signed_bytes bytes_of
counter-read m k d fits =
    ap (λ (s : Stepped). signed_number s.answer.buffer) (wire-read m k d) ∙ come-back.signed_numbers w32 4 refl (channel_at m k).counter fits

-- no refusal has the number of what is done
pub never_done : (r : Refusal) → refusal_number r ≡ 0 → ⊥
never_done Beyond e = omega (arith, e)
never_done Unlisted e = omega (arith, e)
never_done NotWritable e = omega (arith, e)
never_done WrongLength e = omega (arith, e)
never_done BufferTooShort e = omega (arith, e)
never_done NotEnabled e = omega (arith, e)
never_done NotAllowed e = omega (arith, e)
never_done NoChannel e = omega (arith, e)
never_done NotFinite e = omega (arith, e)
never_done ImageLength e = omega (arith, e)
never_done ImageCounts e = omega (arith, e)
never_done ImageSum e = omega (arith, e)
never_done ImageValues e = omega (arith, e)
never_done NoRoom e = omega (arith, e)
never_done NoTable e = omega (arith, e)
never_done NotMinute e = omega (arith, e)
never_done TooManyWindows e = omega (arith, e)
