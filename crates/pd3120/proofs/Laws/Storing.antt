-- The answer of storing, and the room that its buffer has. Assumes nothing.
use Rattle.std.specs.Prelude.{Ok, Err}
use mathlib.Core.Path.{◌≡◌, refl, sym, ap, ◌∙◌}
use mathlib.Core.Bool.{Bool, true, false, cond}
use mathlib.Core.List.{List}
use Prim.Native.Nat.{ℕ, ◌≤◌}
use native.Mathlib.Omega.{arith}
use lib.Dec.{leb}
use lib.ListN.{length}
use borrow.Author.Tests.{leb-true}
use Rattle.model.specs.declared.Module.{Module}
use Rattle.model.specs.declared.Refusal.TheVariants.{NoRoom}
use Rattle.model.specs.Questions.{Reply}
use Rattle.model.specs.Questions.{number_of, store_reply}
use Rattle.model.specs.Calls.{answer_of, stored, store_answer}

pub stored_answer : (m : Module) (lent : List ℕ) (r : Reply) (lent' : List ℕ) → r ≡ store_reply lent → lent' ≡ stored m lent → answer_of r lent' false false 0
    ≡ store_answer m lent
unfolding store_answer
stored_answer m lent r lent' e f = rw (e, f)

room : (b : Bool) → number_of (cond b (Ok 886) (Err NoRoom)) ≡ 0 → b ≡ true
room true e = refl
room false e = absurd (omega arith)

pub roomy : (lent : List ℕ) (r : Reply) → r ≡ store_reply lent → number_of r ≡ 0 → 886 ≤ length lent
unfolding store_reply
roomy lent r e ok = leb-true 886 (length lent) (room (leb 886 (length lent)) (sym (ap number_of e) ∙ ok))
