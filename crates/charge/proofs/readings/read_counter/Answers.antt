use mathlib.Core.Path.{◌≡◌, refl, ap, ◌∙◌}
use mathlib.Core.Bool.{true}
use Prim.Native.Nat.{◌-◌}
use mir.Syntax.{w32}
use mir.Val.{to_z, of_z}
use mir.ValLaws.{to_z-of_z}
use Rattle.integers.specs.Bytes.{signed_number}
use Rattle.model.specs.State.{channel_at}
use Rattle.model.specs.Settings.{is_digital}
use Rattle.model.specs.Calls.{Stepped}
use borrow.Author.Tests.{le-leb, lt-leb}
use Rattle.charge.specs.Readings.{read_as, reading}
use Rattle.charge.proofs.Laws.Held.{counter-held}
use Rattle.charge.proofs.Laws.Readings.{wire-read, counter-read, never_done}
use Rattle.charge.proofs.readings.read_counter.Goals.{then-channel-lt1-via-then-channel-lt1, then-channel-lt1-via-else-channel-lt1+then-channel-gt16, in-Ok, in-Err}
use Rattle.charge.proofs.readings.read_counter.Goals as goal

pub returns-then-channel-lt1 : goal.returns-then-channel-lt1
unfolding reading
returns-then-channel-lt1 c =
    elim c.then-channel-lt1.branch [
      | then-channel-lt1-via-then-channel-lt1 w ↦ simp (lt-leb 1 _ w.if-channel-lt1.true)
      | then-channel-lt1-via-else-channel-lt1+then-channel-gt16 w ↦
          simp (le-leb 1 _ w.if-channel-lt1.false, lt-leb _ 16 w.if-channel-gt16.true)
    ]

pub returns : goal.returns
unfolding reading
returns c =
    let start = c in
    let m = start.args.m in
    let k = start.args.channel in
    let from-1 = le-leb 1 k c.if-channel-lt1.false in
    let to-16 = le-leb k 16 c.if-channel-gt16.false in
    let digital : is_digital k ≡ true = rw (from-1, to-16) refl in
    let r = c.read-done in
    elim c.match-done.branch [
      | in-Ok w ↦
          let counter = w.i32_of_bytes in
          let count : to_z w32 (of_z w32 counter.result) ≡ (channel_at m k).counter
          = to_z-of_z w32 _ (record { sfits = counter.type_inv }) ∙ counter.ensures
          ∙ ap (λ (s : Stepped). signed_number s.answer.buffer) r.ensures
          ∙ counter-read m k digital (counter-held m.channels _ (k - 1) start.well_formed.0.1.1.1.1.0.1.1) in
          rw (digital, w.counter-is, count) (rw w.in-Ok.is at (ap (λ (s : Stepped). read_as s (channel_at m k).counter) r.ensures))
      | in-Err w ↦
          let number = ap (λ (s : Stepped). s.answer.number) (r.ensures ∙ wire-read m k digital) in
          absurd (never_done w.in-Err.why (rw w.in-Err.is at number))
    ]
