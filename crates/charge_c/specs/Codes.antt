-- The tariff that the arguments of the exported function make, and the answer that its result and *cents are. Definitions only.
use Rattle.std.specs.Prelude.{List, ℕ}
use Rattle.charge.specs.declared.Tariff.{Tariff}
use Rattle.charge.specs.Charge.{Charged}

abbrev pub tariff_of : ℕ → List ℕ → List ℕ → Tariff
tariff_of blocks limits prices = record { blocks = blocks; limits = limits; prices = prices }

abbrev pub answer_of : ℕ → ℕ → Charged
answer_of number cents = record { number = number; cents = cents }
