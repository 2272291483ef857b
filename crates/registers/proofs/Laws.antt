-- The place of a SWNo, and of its channel among the sixteen. Assumes nothing.
use mathlib.Core.Path.{◌≡◌, sym}
use mathlib.Core.Bool.{true}
use Prim.Native.Nat.{ℕ, ◌-◌, ◌/◌, ◌<◌, ◌≤◌}
use native.Mathlib.Omega.{arith}
use borrow.Author.Tests.{le-leb}
use Rattle.model.specs.Registers.{place}
use Rattle.model.specs.Settings.{is_digital}
use Rattle.model.proofs.Laws.Places.{place-cases}
use Rattle.model.proofs.Laws.Tests.{by-test, range}
use Rattle.registers.specs.Places.{slot_of, OfChannel}

-- ---- the place of a channel
digital-is : (k : ℕ) → 1 ≤ k → k ≤ 16 → is_digital k ≡ true
digital-is k l h = rw (le-leb 1 k l, le-leb k 16 h)

slot-in : (k : ℕ) → 1 ≤ k → k ≤ 16 → k - 1 ≡ slot_of k
slot-in k l h = rw (digital-is k l h)

-- it is one of the sixteen, and the place of a SWNo's channel is that of its register's
pub slot-fits : (k : ℕ) → slot_of k < 16
slot-fits k = by-test (λ (i : ℕ). i < 16) (is_digital k) (λ e. let (p, q) = range k e in omega (arith, p, q)) (λ e. omega arith)

pub slot-of : (n : ℕ) → OfChannel (slot_of (n / 16)) (place n)
slot-of n = place-cases (OfChannel (slot_of (n / 16))) n tt (λ e r q. tt) (λ e r q. tt) (λ e r q. tt) (λ l h r e. sym (slot-in (n / 16) l h))
