-- No answer is longer than an image: a reply's length is at most that of what would be done, whatever is asked first. Assumes nothing.
use Rattle.std.specs.Prelude.{Ok, Err}
use mathlib.Core.Path.{◌≡◌, sym, ap, subst}
use mathlib.Core.Bool.{Bool, true, false, cond}
use mathlib.Core.List.{List, [], ◌∷◌}
use Prim.Native.Nat.{ℕ, ◌≤◌}
use native.Mathlib.Omega.{arith}
use Rattle.model.specs.declared.Module.{Module}
use Rattle.model.specs.declared.DataRegister.{DataRegister}
use Rattle.model.specs.declared.DataRegister.TheVariants.{RealA, RealB, TimerA, TimerB, LookUp1, LookUp2}
use Rattle.model.specs.declared.Refusal.{Refusal}
use Rattle.model.specs.Questions.{Reply}
use Rattle.model.specs.State.{write_enable_of}
use Rattle.model.specs.Registers.{Place, service, digital, common, data_channel, unlisted, data_row, place, size}
use Rattle.model.specs.Questions.{Question, asked, length_of, read_reply, write_reply, sample_reply, look_up_reply, minute_reply, windows_reply, power_up_reply, store_reply}
use Rattle.model.specs.Questions.{read_questions, write_questions, sample_questions, look_up_questions, minute_questions, windows_questions, power_up_questions}
use Rattle.model.specs.Questions.{store_questions}
use Rattle.model.specs.Image.{image_size}
use Rattle.model.specs.Calls.{Request, read, write, sample, look_up, minute, windows, tick, Answer, answer_of, Stepped, step, power_up_answer, store_answer}
use Rattle.reads.proofs.Laws.Held.{service-fits, digital-fits, common-fits}

answered : (b : Bool) (r : Reply) (w : Refusal) (n : ℕ) → length_of r ≤ n → length_of (cond b r (Err w)) ≤ n
answered true r w n h = h
answered false r w n h = omega arith

asked-length : (qs : List Question) (n : ℕ) → length_of (asked qs (Ok n)) ≤ n
asked-length [] n = omega arith
asked-length (q ∷ qs) n = answered q.yes (asked qs (Ok n)) q.refusal n (asked-length qs n)

within : (n a : ℕ) → a ≤ n → n ≤ image_size → a ≤ image_size
within n a h g = omega (arith, h, g)

data-length : (r : DataRegister) → (data_row r).size ≤ image_size
data-length RealA = omega arith
data-length RealB = omega arith
data-length TimerA = omega arith
data-length TimerB = omega arith
data-length LookUp1 = omega arith
data-length LookUp2 = omega arith

register-length : (p : Place) → size p ≤ image_size
register-length (service r) = let h = service-fits r in omega (arith, h)
register-length (digital k r) = let h = digital-fits r in omega (arith, h)
register-length (common r) = let h = common-fits r in omega (arith, h)
register-length (data_channel r) = data-length r
register-length unlisted = omega arith

pub step-length : (m : Module) (x : Request) → (step m x).answer.length ≤ image_size
unfolding step read_reply write_reply sample_reply look_up_reply minute_reply windows_reply
step-length m (read n lent) = let p = place n in within (size p) _ (asked-length (read_questions n p lent) (size p)) (register-length p)
step-length m (write n bs) = within 0 _ (asked-length (write_questions (write_enable_of m.shared) n (place n) bs) 0) (omega arith)
step-length m (sample k b x) = within 0 _ (asked-length (sample_questions k x) 0) (omega arith)
step-length m (look_up k x) = within 0 _ (asked-length (look_up_questions k x) 0) (omega arith)
step-length m (minute n) = within 0 _ (asked-length (minute_questions n) 0) (omega arith)
step-length m (windows k ws) = within 0 _ (asked-length (windows_questions k ws) 0) (omega arith)
step-length m tick = omega arith

pub read_length : (n : ℕ) (lent : List ℕ) (r : Reply) → r ≡ read_reply n (place n) lent → length_of r ≤ image_size
unfolding read_reply
read_length n lent r e =
    let p = place n in rw e (within (size p) _ (asked-length (read_questions n p lent) (size p)) (register-length p))

-- ---- of the replies that the library's calls give
pub reply-length : (m : Module) (x : Request) (r : Reply) (buf : List ℕ) (d g : Bool) → answer_of r buf d g 0 ≡ (step m x).answer → length_of r ≤ image_size
reply-length m x r buf d g e = subst (λ (n : ℕ). n ≤ image_size) (ap (λ (a : Answer). a.length) (sym e)) (step-length m x)

pub plain-length : (m : Module) (x : Request) (r : Reply) (after : Module) → record { answer = answer_of r [] false false 0; box = after } ≡ step m x
    → length_of r ≤ image_size
plain-length m x r after e = reply-length m x r [] false false (ap (λ (z : Stepped). z.answer) e)

pub power-up-length : (img : List ℕ) (r : Reply) → answer_of r [] false false 0 ≡ power_up_answer img → length_of r ≤ image_size
unfolding power_up_answer power_up_reply
power-up-length img r e =
    subst (λ (n : ℕ). n ≤ image_size) (ap (λ (a : Answer). a.length) (sym e)) (within 0 _ (asked-length (power_up_questions img) 0) (omega arith))

pub store_length : (m : Module) (lent : List ℕ) (r : Reply) (lent' : List ℕ) → answer_of r lent' false false 0 ≡ store_answer m lent → length_of r ≤ image_size
unfolding store_answer store_reply
store_length m lent r lent' e = subst (λ (n : ℕ). n ≤ image_size) (ap (λ (a : Answer). a.length) (sym e)) (asked-length (store_questions lent) image_size)

-- a write answers none
zero : (n : ℕ) → n ≤ 0 → n ≡ 0
zero n l = omega (arith, l)

pub no-length : (m : Module) (n : ℕ) (bs : List ℕ) → (step m (write n bs)).answer.length ≡ 0
unfolding step write_reply
no-length m n bs = zero _ (asked-length (write_questions (write_enable_of m.shared) n (place n) bs) 0)
