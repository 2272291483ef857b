-- Which writes are accepted, and what a write answers and leaves. Definitions only.
use Rattle.std.specs.Prelude.{◌≡◌, true, List, ℕ, length}
use Rattle.model.specs.declared.Module.{Module}
use Rattle.model.specs.declared.Outcome.{Outcome}
use Rattle.model.specs.State.{write_enable_of}
use Rattle.model.specs.Registers.{Place, place, size}
use Rattle.model.specs.Questions.{question3, write_reply}
use Rattle.model.specs.Writes.{allowed}
use Rattle.model.specs.Calls.{write_leaves}

-- what the effect of a write rests on: the answers to questions 3, 4 and 7
abbrev pub Accepted : Place → List ℕ → Type 0
Accepted p bs = (question3 p ≡ true) × (length bs ≡ size p) × (allowed p bs ≡ true)

unfoldable pub write_of : Module → ℕ → List ℕ → Outcome Module
write_of m n bs = let r = write_reply (write_enable_of m.shared) n (place n) bs in record { reply = r; after = write_leaves r (place n) bs m }
