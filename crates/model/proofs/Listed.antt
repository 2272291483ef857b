-- The table by computation over every SWNo, and none past it. Assumes nothing.
use mathlib.Core.Path.{◌≡◌, refl}
use Prim.Native.Nat.{ℕ, ◌≤◌}
use native.Mathlib.Omega.{arith}
use Rattle.model.specs.Registers.{unlisted, place}
use Rattle.model.specs.Listed.{Listed}
use Rattle.model.proofs.Laws.Places.{place-cases}
use Rattle.model.specs.Registers.{Place}

beyond : (n : ℕ) → 0x140 ≤ n → place n ≡ unlisted
beyond n h =
    place-cases (λ (p : Place). p ≡ unlisted) n refl (λ e r q. absurd (omega arith)) (λ e r q. absurd (omega arith)) (λ e r q. absurd (omega arith))
    (λ l u r q. absurd (omega arith))

pub listed : Listed
unfolding place
listed = record { all = refl; beyond = beyond }
