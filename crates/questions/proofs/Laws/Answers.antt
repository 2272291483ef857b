-- What follows where no question is answered no. Assumes nothing.
use Rattle.std.specs.Prelude.{Ok, Err}
use mathlib.Core.Path.{◌≡◌, refl}
use mathlib.Core.Bool.{Bool, true, false, cond}
use mathlib.Core.List.{List}
use Prim.Native.Nat.{ℕ, ◌≤◌}
use native.Mathlib.Omega.{arith}
use lib.ListN.{length}
use borrow.Author.Tests.{eqb-true, leb-true}
use Rattle.model.specs.declared.Refusal.{Refusal}
use Rattle.model.specs.Questions.{Reply}
use Rattle.model.specs.Registers.{Place, size}
use Rattle.model.specs.Questions.{question1, question2, question3, question4, question5, question6, question7, read_reply, write_reply}
use Rattle.model.specs.Writes.{allowed}

-- a question that is asked before what is done is answered yes
pub yes : (b : Bool) (x : Reply) (r : Refusal) (n : ℕ) → cond b x (Err r) ≡ Ok n → (b ≡ true) × (x ≡ Ok n)
yes true x r n e = (refl, e)
yes false x r n e = let z : ◌≡◌ {A = ℕ} 0 1 = cc in absurd (omega arith)

-- a read that is done: the buffer has room
pub roomy : (swno : ℕ) (p : Place) (lent : List ℕ) (n : ℕ) → read_reply swno p lent ≡ Ok n → size p ≤ length lent
unfolding read_reply
roomy swno p lent n e =
    let a₁ = yes (question1 swno) _ _ n e in
    let a₂ = yes (question2 p) _ _ n a₁.1 in
    leb-true _ _ (yes (question5 p lent) _ _ n a₂.1).0

-- a write that is done: the register is writable, the length exact and the value allowed
pub accepted : (enable : Bool) (swno : ℕ) (p : Place) (bs : List ℕ) (n : ℕ) → write_reply enable swno p bs ≡ Ok n →
    (question3 p ≡ true) × (length bs ≡ size p) × (allowed p bs ≡ true)
unfolding write_reply
accepted enable swno p bs n e =
    let a₁ = yes (question1 swno) _ _ n e in
    let a₂ = yes (question2 p) _ _ n a₁.1 in
    let a₃ = yes (question3 p) _ _ n a₂.1 in
    let a₄ = yes (question4 p bs) _ _ n a₃.1 in
    let a₆ = yes (question6 enable p) _ _ n a₄.1 in
    let a₇ = yes (question7 p bs) _ _ n a₆.1 in
    (a₃.0, eqb-true _ _ a₄.0, a₇.0)
