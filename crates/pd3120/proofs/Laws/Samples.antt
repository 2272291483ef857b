-- A sample, or windows for a channel, put together. Assumes nothing.
use Rattle.std.specs.Prelude.{Ok, Err}
use mathlib.Core.Path.{◌≡◌, sym, ap, ◌∙◌}
use mathlib.Core.Bool.{true, false}
use mathlib.Core.List.{List, []}
use Prim.Native.Nat.{ℕ, ◌-◌}
use lib.Ieee.{Float}
use lib.ListN.{get_or, set}
use lib.Seq.{set-get_or}
use Rattle.model.specs.declared.Channel.{Channel}
use Rattle.model.specs.declared.Module.{Module}
use Rattle.model.specs.declared.Refusal.{Refusal}
use Rattle.model.specs.Questions.{Reply}
use Rattle.model.specs.State.{nothing, channel_at, with_channels}
use Rattle.model.specs.Settings.{is_digital}
use Rattle.model.specs.Questions.{sample_reply, windows_reply}
use Rattle.model.specs.Calls.{Stepped, answer_of, sampled_as}
use Rattle.registers.specs.Places.{slot_of}
use Rattle.questions.proofs.Laws.Answers.{yes}

-- an accepted sample is for channel 1 to 16, and so are accepted windows
pub is-digital : (k : ℕ) (x : Float) (n : ℕ) → sample_reply k x ≡ Ok n → is_digital k ≡ true
unfolding sample_reply
is-digital k x n e = (yes (is_digital k) _ _ n e).0

pub has-channel : (k : ℕ) (ws : List ℕ) (n : ℕ) → windows_reply k ws ≡ Ok n → is_digital k ≡ true
unfolding windows_reply
has-channel k ws n e = (yes (is_digital k) _ _ n e).0

-- ---- the box m with a channel put back at its place, and the answer, are the model's; q is the model's reply, and r the code's
abbrev pub put_back : Reply → Channel → ℕ → Module → Stepped
put_back r left k m = record { answer = answer_of r [] false false 0; box = with_channels (set m.channels (slot_of k) left) m }

-- a sample that is done leaves what f makes of the channel
pub done : (r q : Reply) (n k : ℕ) (f : Channel → Channel) (ch left : Channel) → r ≡ q → r ≡ Ok n → ((n : ℕ) → q ≡ Ok n → is_digital k ≡ true) → left ≡ f ch
    → (m : Module) → get_or m.channels (slot_of k) nothing ≡ ch → put_back r left k m ≡ sampled_as q k (f (channel_at m k)) m
done r q n k f ch left e d h g m p =
    let s : slot_of k ≡ k - 1 = rw (h n (sym e ∙ d)) in
    let same : left ≡ f (channel_at m k) = g ∙ ap f (sym p ∙ ap (λ (i : ℕ). get_or m.channels i nothing) s) in
    rw (← e, d, s, same)

-- one that is refused leaves the channel
pub refused : (r q : Reply) (w : Refusal) (k : ℕ) (ch x : Channel) → r ≡ q → r ≡ Err w
    → (m : Module) → get_or m.channels (slot_of k) nothing ≡ ch → put_back r ch k m ≡ sampled_as q k x m
refused r q w k ch x e d m p = rw (← e, d, ← p, set-get_or m.channels (slot_of k) nothing)
