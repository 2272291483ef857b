-- A reset, by computation on any box: what it writes in four parts is what power-up makes of the kept values. Assumes nothing.
use mathlib.Core.Path.{◌≡◌, refl, sym, ap, ◌∙◌}
use mathlib.Core.Logic.{◌≢◌}
use mathlib.Core.List.{List, [], ◌∷◌, map}
use Prim.Native.Nat.{ℕ, ◌≤◌}
use lib.Dec.{eqb}
use lib.ListN.{length, take}
use borrow.Author.Tests.{ne_eqb, le-leb, lt-leb}
use Rattle.model.specs.declared.Channel.{Channel}
use Rattle.model.specs.declared.Module.{Module}
use Rattle.model.specs.declared.ServiceRegister.TheVariants.{Reset}
use Rattle.model.specs.Registers.{place}
use Rattle.model.specs.Image as Image
use Rattle.model.specs.Restored as Restored
use Rattle.model.specs.Image.{setup_of}
use Rattle.model.specs.Restored.{powered_up}
use Rattle.model.specs.Writes as Writes
use Rattle.model.specs.Writes.{set_write_enable}
use Rattle.model.specs.Questions.{write_reply}
use Rattle.model.specs.Calls.{step, cleared, watchdog_preset, power_up, store_answer}
use Rattle.model.specs.Images.{Reached}
use Rattle.model.specs.Resets.{reset, enable, with_his, bit6, Resets}
use Rattle.model.proofs.Images.{stored-power-up}

-- what a reset makes of every channel
restored-all : (cs : List Channel) → map (Writes.every_written Reset) cs ≡ map Restored.restored (map Image.entry_of cs)
unfolding Writes.every_written
restored-all [] = refl
restored-all (ch ∷ cs) = ap (λ (xs : List Channel). Restored.restored (Image.entry_of ch) ∷ xs) (restored-all cs)

restores : (m : Module) → (reset m 0xFF).box ≡ with_his bit6 (powered_up (setup_of m))
unfolding step watchdog_preset cleared place write_reply Writes.written Writes.shared_written Writes.errors_written Writes.data_reset powered_up
restores m =
    let after = with_his bit6 (powered_up (setup_of m)) in
    λ i. record { shared = after.shared; service = after.service; channels = restored-all m.channels i; data_channel = after.data_channel }

stored : (m : Module) → Reached m → (lent : List ℕ) → 886 ≤ length lent → (reset m 0xFF).box ≡ with_his bit6 (power_up (take 886 (store_answer m lent).buffer))
stored m r lent h = restores m ∙ ap (with_his bit6) (sym (stored-power-up m r lent h))

other : (m : Module) (b : ℕ) → b ≢ 0xFF → (reset m b).answer.number ≡ 7
unfolding step place write_reply
other m b h = rw (ne_eqb b 0xFF h)

enabled : (m : Module) (b : ℕ) → b ≤ 1 → (enable m b).answer.number ≡ 0
unfolding step place write_reply
enabled m b h = rw (le-leb b 1 h)

written : (m : Module) (b : ℕ) → b ≤ 1 → (enable m b).box.shared ≡ set_write_enable (eqb b 1) m.shared
unfolding step place write_reply watchdog_preset cleared Writes.written Writes.shared_written
written m b h = rw (le-leb b 1 h)

not_enabled : (m : Module) (b : ℕ) → 2 ≤ b → (enable m b).answer.number ≡ 7
unfolding step place write_reply
not_enabled m b h = rw (lt-leb b 1 h)

pub resets : Resets
unfolding step place write_reply
resets =
    record {
      restores = restores;
      stored = stored;
      answer = λ m. refl;
      other = other;
      enabled = enabled;
      written = written;
      not_enabled = not_enabled;
    }
