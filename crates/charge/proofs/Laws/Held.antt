-- Counter of every channel of a box has 32 signed bits: what owning the box tells. Assumes nothing.
use mathlib.Core.List.{List, [], ◌∷◌}
use Prim.Native.Nat.{ℕ, zero, suc}
use native.Mathlib.Omega.{arith}
use lib.ListN.{get_or}
use mir.Syntax.{w32}
use mir.Val.{Val, SFits}
use denote.Array.{each}
use denote.Shadow.{shadow}
use Rattle.model.specs.declared.Channel.{Channel}
use Rattle.model.specs.State.{nothing}
use Rattle.model.specs.contracts.Channel as Ch

pub counter-held : (cs : List Channel) (us : List Val) (i : ℕ) → shadow (each (Ch.the_row).Denot (Ch.the_row).own_val cs us)
    → SFits w32 (get_or cs i nothing).counter
counter-held [] us i s = record { sfits = omega arith }
counter-held (x ∷ xs) (u ∷ us) zero s = record { sfits = s.0.1.1.1.1.1.1.1.0.1 }
counter-held (x ∷ xs) (u ∷ us) (suc i) s = counter-held xs us i s.1
counter-held (x ∷ xs) [] i s = absurd s
