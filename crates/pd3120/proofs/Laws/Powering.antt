-- What a power-up promises, from its answer and the box that it leaves. Assumes nothing.
use mathlib.Core.Path.{◌≡◌, sym, ap, subst, ◌∙◌}
use mathlib.Core.Bool.{false}
use mathlib.Core.List.{List, []}
use Prim.Native.Nat.{ℕ}
use lib.Dec.{T}
use lib.Pow.{are_bytes}
use Rattle.model.specs.declared.Module.{Module}
use Rattle.model.specs.declared.Outcome.{Outcome}
use Rattle.model.specs.Questions.{Reply}
use Rattle.model.specs.Questions.{number_of, power_up_reply}
use Rattle.model.specs.Calls.{answer_of, power_up, power_up_answer}
use Rattle.model.specs.Image.{setup_of, encode}
use Rattle.model.specs.TwoLists.{LearnsNothing}
use Rattle.model.specs.Runs.{RunsAddUp}
use Rattle.model.proofs.TwoLists.{sixteen, two-lists}
use Rattle.model.proofs.Runs.{runs}
use Rattle.model.proofs.Images.{images}
use Rattle.pd3120.specs.Answers.{PoweredUp}

pub powered-up : (img : List ℕ) (r : Outcome Module) → T (are_bytes img) → r.after ≡ power_up img → r.reply ≡ power_up_reply img → PoweredUp img r
unfolding power_up_answer
powered-up img r bytes after reply =
    let number = ap number_of reply in
    record {
      answer_is = ap (λ (q : Reply). answer_of q [] false false 0) reply;
      box_is = after;
      runs_add_up = subst RunsAddUp (sym after) (runs.add_up (power_up img) (sixteen img));
      learns_nothing = λ ok. subst LearnsNothing (sym after) (two-lists img (sym number ∙ ok));
      stored_again = λ ok long. ap (λ (m : Module). encode (setup_of m)) after ∙ images.again img bytes long (sym number ∙ ok);
      renewed = λ ok. ap (λ (m : Module). power_up (encode (setup_of m))) after ∙ (images.renewed img bytes (sym number ∙ ok)).1 ∙ sym after;
    }
