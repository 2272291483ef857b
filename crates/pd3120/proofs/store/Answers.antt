use mathlib.Core.Path.{sym, ap, subst}
use mathlib.Core.List.{List}
use Prim.Native.Nat.{ℕ}
use lib.ListN.{take}
use Rattle.model.specs.Images.{PowersUpTo}
use Rattle.model.proofs.Images.{images}
use Rattle.pd3120.proofs.Laws.Storing.{stored_answer, roomy}
use Rattle.pd3120.proofs.store.Goals as goal

pub returns : goal.returns
returns c =
    let r = c.store in
    let s = c.args in
    let m = s.m in
    let lent = s.buf.now in
    let e = stored_answer m lent r.result _ r.ensures.reply r.ensures.buffer in
    record {
      answer_is = e;
      powers_up = λ reached ok. subst (λ (l : List ℕ). PowersUpTo m (take 886 l)) (ap (λ a. a.buffer) (sym e))
          (images.back m reached lent (roomy lent r.result r.ensures.reply ok));
    }
