-- The InFlags of the sixteen channels in one word, as the register InFlags has them: bit k-1 is channel k's. Definitions only.
use Rattle.std.specs.Prelude.{Bool, List, [], ◌∷◌, ℕ, zero, suc, ◌/◌}
use Rattle.model.specs.Settings.{bit}

-- the n lowest bits of a number, the lowest first
abbrev pub lowest : ℕ → ℕ → List Bool
lowest zero w = []
lowest (suc n) w = bit 0 w ∷ lowest n (w / 2)

unfoldable pub levels_of : ℕ → List Bool
levels_of w = lowest 16 w
