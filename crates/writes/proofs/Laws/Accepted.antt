-- What follows where a write is accepted, and the answer and the box of a write. Assumes nothing.
use Rattle.std.specs.Prelude.{Ok}
use mathlib.Core.Path.{◌≡◌, sym, ◌∙◌}
use mathlib.Core.Bool.{Bool}
use mathlib.Core.List.{List}
use Prim.Native.Nat.{ℕ}
use Rattle.model.specs.declared.Module.{Module}
use Rattle.model.specs.Questions.{Reply}
use Rattle.model.specs.Registers.{Place, place}
use Rattle.model.specs.State.{write_enable_of}
use Rattle.model.specs.Questions.{write_reply}
use Rattle.model.specs.Calls.{write_leaves}
use Rattle.questions.proofs.Laws.Answers.{accepted}
use Rattle.writes.specs.Accepted.{Accepted, write_of}

-- the questions of a write that is done
pub done : (enable : Bool) (n : ℕ) (p : Place) (bs : List ℕ) (r : Reply) (k : ℕ) → r ≡ write_reply enable n p bs → r ≡ Ok k → Accepted p bs
done enable n p bs r k w d = accepted enable n p bs k (sym w ∙ d)

-- the answer with the box that it leaves is the write's
pub answered : (m : Module) (n : ℕ) (bs : List ℕ) (p : Place) (r : Reply) (after : Module) → p ≡ place n → r ≡ write_reply (write_enable_of m.shared) n p bs
    → after ≡ write_leaves r p bs m
    → record { reply = r; after = after } ≡ write_of m n bs
unfolding write_of
answered m n bs p r after e f g = rw (g, f, e)
