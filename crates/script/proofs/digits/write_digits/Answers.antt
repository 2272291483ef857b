use native.Mathlib.Omega.{arith}
use native.Mathlib.Nat.{not-suc-le-zero}
use native.Mathlib.Numerals.{add-one, sub-one}
use mathlib.Core.Path.{◌≡◌, sym, ap, subst, ◌∙◌}
use mathlib.Core.List.{List, ◌∷◌, ◌++◌, append-nil}
use Prim.Native.Nat.{ℕ, zero, suc, ◌+◌, ◌-◌, ◌/◌, ◌%◌, ◌≤◌, ◌<◌}
use lib.ListN.{length, take, drop, set}
use lib.Seq.{slice, slice_empty, length-take-le, take-set-lt, append_snoc}
use Rattle.std.proofs.lemmas.List.{drop-set}
use Rattle.script.specs.Digits.{last_digits}
use Rattle.script.proofs.digits.write_digits.Goals as goal

-- a turn moves the last of the digits that are still to write to the front of those that are written
digits_step : (i k rest g : ℕ) (out : List ℕ) → 0 < i → i ≤ k → k ≤ length out → g ≡ 48 + rest % 10
    → last_digits (i - 1) (rest / 10) ++ slice (i - 1) k (set out (i - 1) g) ≡ last_digits i rest ++ slice i k out
digits_step zero k rest g out some h room e = absurd (not-suc-le-zero some)
digits_step (suc j) k rest g out some h room e =
    let before = last_digits j (rest / 10) in
    let done = slice (suc j) k out in
    let within : j < length (take k out) = subst (λ (n : ℕ). j < n) (sym (length-take-le k out room)) h in
    ap (λ (m : ℕ). last_digits m (rest / 10) ++ slice m k (set out m g)) (sub-one (suc j))
    ∙ ap (λ (l : List ℕ). before ++ drop j l) (take-set-lt k out j g h)
    ∙ ap (λ (l : List ℕ). before ++ l) (drop-set (take k out) j g within)
    ∙ ap (λ (m : ℕ). before ++ g ∷ drop m (take k out)) (add-one j)
    ∙ ap (λ (x : ℕ). before ++ x ∷ done) e
    ∙ sym (append_snoc before (48 + rest % 10) done)

pub loop-i-init : goal.loop-i-init
loop-i-init c =
    let a = c.args in
    let all = last_digits a.k a.n in
    ap (λ (l : List ℕ). all ++ l) (slice_empty a.k a.out.now) ∙ append-nil all

pub loop-i-preserved : goal.loop-i-preserved
loop-i-preserved c =
    let l = c.loop-i in
    digits_step l.i c.args.k l.rest c.character.result l.out c.loop-i-test.true l.auto.i (omega arith) c.character.ensures ∙ l.invariant
