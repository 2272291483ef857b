-- Questions and their answers. Assumes nothing.
use Rattle.std.specs.Prelude.{Ok, Err, is_ok}
use mathlib.Core.Path.{◌≡◌, refl, sym}
use mathlib.Core.Bool.{Bool, true, false, cond, false≢true}
use mathlib.Core.List.{List}
use Prim.Native.Nat.{ℕ}
use Rattle.model.specs.declared.Refusal.{Refusal}
use Rattle.model.specs.Questions.{Reply}
use Rattle.model.specs.Image.{size_right, decode}
use Rattle.model.specs.Restored.{powered_up, zero_setup}
use Rattle.model.specs.Questions.{power_up_reply}
use Rattle.model.specs.Calls.{powered_up_as}
use Rattle.image.specs.Lengths.{KnownLength}
use Rattle.image.proofs.Laws.Sections.{sized}

-- what is done passed its first question
passed : (b : Bool) (x : Reply) (r : Refusal) → is_ok (cond b x (Err r)) ≡ true → b ≡ true
passed true x r e = refl
passed false x r e = e

-- so an accepted image has a known length
pub done-sized : (img : List ℕ) → is_ok (power_up_reply img) ≡ true → KnownLength img
unfolding power_up_reply
done-sized img e = sized img (passed (size_right img) _ _ e)

-- the box by whether power-up is done
pub started-done : (r : Reply) (img : List ℕ) → is_ok r ≡ true → powered_up (decode img) ≡ powered_up_as r img
started-done (Ok n) img e = refl
started-done (Err r) img e = absurd (false≢true e)

pub started-refused : (r : Reply) (img : List ℕ) → is_ok r ≡ false → powered_up zero_setup ≡ powered_up_as r img
started-refused (Ok n) img e = absurd (false≢true (sym e))
started-refused (Err r) img e = refl
