-- Document 01, Setup image 3: a reset is the power-up of the kept values, but for His. Service 3 and D: what these two registers take.
-- The proof is in proofs/Resets.antt.
use Rattle.std.specs.Prelude.{◌≡◌, ◌≢◌, true, false, List, [], ◌∷◌, ℕ, ◌≤◌, eqb, length, take}
use Rattle.model.specs.declared.ServiceBits.{ServiceBits}
use Rattle.model.specs.declared.Module.{Module}
use Rattle.model.specs.State.{wd_timer_of, service_bits, service_of, with_service_record}
use Rattle.model.specs.Image.{setup_of}
use Rattle.model.specs.Restored.{powered_up}
use Rattle.model.specs.Writes.{set_write_enable}
use Rattle.model.specs.Calls.{Stepped, write, step, power_up, store_answer}
use Rattle.model.specs.Images.{Reached}

-- a write of one byte to SWNo 3 and to SWNo $D
abbrev pub reset : Module → ℕ → Stepped
reset m b = step m (write 0x03 (b ∷ []))

abbrev pub enable : Module → ℕ → Stepped
enable m b = step m (write 0x0D (b ∷ []))

-- the box with this service His
abbrev pub with_his : ServiceBits → Module → Module
with_his his m = with_service_record (service_of (wd_timer_of m.service) m.service.act his) m

-- bit 6 alone
abbrev pub bit6 : ServiceBits
bit6 = service_bits false true false

pub record Resets : Type 0 where
  -- of any box
  pub restores : (m : Module) → (reset m 0xFF).box ≡ with_his bit6 (powered_up (setup_of m))
  -- of a reached one it is the power-up of the image that storing gives
  pub stored : (m : Module) → Reached m → (lent : List ℕ) → 886 ≤ length lent →
      (reset m 0xFF).box ≡ with_his bit6 (power_up (take 886 (store_answer m lent).buffer))
  -- it answers with the new box's bits
  pub answer : (m : Module) → (reset m 0xFF).answer.number ≡ 0
  -- every other byte is refused
  pub other : (m : Module) (b : ℕ) → b ≢ 0xFF → (reset m b).answer.number ≡ 7
  -- WriteEnable takes 0 and 1 and no other byte, and a write of it changes nothing else of the shared record
  pub enabled : (m : Module) (b : ℕ) → b ≤ 1 → (enable m b).answer.number ≡ 0
  pub written : (m : Module) (b : ℕ) → b ≤ 1 → (enable m b).box.shared ≡ set_write_enable (eqb b 1) m.shared
  pub not_enabled : (m : Module) (b : ℕ) → 2 ≤ b → (enable m b).answer.number ≡ 7
