use mathlib.Core.Path.{◌≡◌, refl, sym, ap, ◌∙◌}
use mathlib.Core.Bool.{true, false}
use Prim.Native.Nat.{ℕ}
use native.Mathlib.Numerals.{add-one}
use native.Mathlib.Omega.{arith}
use lib.ListN.{length, drop}
use lib.Seq.{drop-length}
use borrow.Author.Tests.{eq-eqb, ne_eqb}
use Rattle.model.specs.Writes.{all_zero}
use Rattle.questions.proofs.Laws.Zeros.{zero_more}
use Rattle.questions.proofs.values.all_zero.Goals as goal

pub loop-i-init : goal.loop-i-init
loop-i-init c = (refl, refl)

pub returns-then-bytes-i-ne0 : goal.returns-then-bytes-i-ne0
returns-then-bytes-i-ne0 c =
    let l = c.loop-i in
    let s = c.args.bytes.now in
    sym (l.invariant.1 ∙ zero_more s l.i false (omega arith) (ne_eqb _ 0 c.if-bytes-i-ne0.true))

pub loop-i-preserved : goal.loop-i-preserved
loop-i-preserved c =
    let l = c.loop-i in
    let s = c.args.bytes.now in
    (l.invariant.0, rw add-one (l.invariant.1 ∙ zero_more s l.i true (omega arith) (eq-eqb _ 0 c.if-bytes-i-ne0.false)))

pub returns : goal.returns
returns c =
    let l = c.loop-i in
    let s = c.args.bytes.now in
    let e : l.i ≡ length s = omega arith in
    sym (l.invariant.1 ∙ ap (λ (n : ℕ). all_zero (drop n s)) e ∙ ap all_zero (drop-length s))
