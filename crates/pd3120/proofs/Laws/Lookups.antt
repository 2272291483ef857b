-- A lookup put together, done and refused. Assumes nothing.
use Rattle.std.specs.Prelude.{Ok, Err}
use mathlib.Core.Path.{◌≡◌, sym, ◌∙◌}
use Prim.Native.Nat.{ℕ}
use lib.Ieee.{Float}
use Rattle.std.specs.Float.Ieee.Scale.{finite}
use Rattle.model.specs.declared.DataChannel.{DataChannel}
use Rattle.model.specs.declared.Refusal.{Refusal}
use Rattle.model.specs.Lookup.{level_bits}
use Rattle.model.specs.Questions.{question15, look_up_reply}
use Rattle.model.specs.Calls.{step}
use Rattle.questions.proofs.Laws.Answers.{yes}
use Rattle.pd3120.specs.Parts.{LookedUpBy}

-- one that is done has no length
no-length : (k : ℕ) (x : Float) (n : ℕ) → look_up_reply k x ≡ Ok n → look_up_reply k x ≡ Ok 0
unfolding look_up_reply
no-length k x n e = e ∙ sym (yes (finite x) _ _ n (yes (question15 k) _ _ n e).1).1

pub found : (k : ℕ) (x : Float) (d : DataChannel) (n bits : ℕ) → look_up_reply k x ≡ Ok n → bits ≡ level_bits k x d → LookedUpBy d k x (Ok bits)
unfolding step
found k x d n bits e f = λ m g. rw (no-length k x n e, f, ← g)

pub refused : (k : ℕ) (x : Float) (d : DataChannel) (w : Refusal) → look_up_reply k x ≡ Err w → LookedUpBy d k x (Err w)
unfolding step
refused k x d w e = λ m g. rw e
