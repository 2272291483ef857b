-- The minute put together: the box m with the shared record put back, and the answer, are the model's; q is the model's reply, and r the code's. Assumes nothing.
use Rattle.std.specs.Prelude.{Ok, Err}
use mathlib.Core.Path.{◌≡◌, sym, ap, ◌∙◌}
use mathlib.Core.Bool.{false}
use mathlib.Core.List.{[]}
use Prim.Native.Nat.{ℕ}
use Rattle.model.specs.declared.Module.{Module}
use Rattle.model.specs.declared.Refusal.{Refusal}
use Rattle.model.specs.Questions.{Reply}
use Rattle.model.specs.declared.Shared.{Shared}
use Rattle.model.specs.State.{with_clock, with_shared}
use Rattle.model.specs.Hours.{clock_at}
use Rattle.model.specs.Calls.{Stepped, answer_of, minute_as}

abbrev pub put_shared : Reply → Shared → Module → Stepped
put_shared r left m = record { answer = answer_of r [] false false 0; box = with_shared left m }

pub set : (r q : Reply) (n k : ℕ) (s left : Shared) → r ≡ q → r ≡ Ok n → left ≡ with_clock (clock_at k) s
    → (m : Module) → m.shared ≡ s → put_shared r left m ≡ minute_as q k m
set r q n k s left e d g m p = rw (← e, d, g ∙ ap (with_clock (clock_at k)) (sym p))

pub not_set : (r q : Reply) (w : Refusal) (k : ℕ) (s : Shared) → r ≡ q → r ≡ Err w
    → (m : Module) → m.shared ≡ s → put_shared r s m ≡ minute_as q k m
not_set r q w k s e d m p = rw (← e, d, ← p)
