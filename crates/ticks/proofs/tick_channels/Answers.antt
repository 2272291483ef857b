use mathlib.Core.Path.{◌≡◌, sym, ap, ◌∙◌}
use Prim.Native.Nat.{ℕ, suc, ◌-◌, ◌<◌}
use native.Mathlib.Omega.{arith}
use lib.ListN.{length}
use borrow.Author.Rules.{rules}
use Rattle.model.specs.declared.Channel.{Channel}
use Rattle.model.proofs.Laws.Filled.{filled, alike, none, in_place, all-below, below, from, down, from-none, from_all}
use Rattle.model.specs.Tick.{saved}
use Rattle.ticks.specs.Begun.{ticked_by}
use Rattle.ticks.proofs.tick_channels.Goals as goal

pub loop-k-init : goal.loop-k-init
loop-k-init c =
    let a = c.args in
    let g : ℕ → Channel → Channel = λ j ch. saved a.due (ticked_by a.b ch) in
    sym (none g (from 16 16) a.channels a.channels (λ j l. from-none 16 j))

pub loop-k-preserved : goal.loop-k-preserved
loop-k-preserved c =
    let start = c in
    let a = start.args in
    let l = c.loop-k in
    let k = l.k - 1 in
    let xs = a.channels in
    let g : ℕ → Channel → Channel = λ j ch. saved a.due (ticked_by a.b ch) in
    let n : length xs ≡ 16 = search rules in
    let h : k < length xs = omega arith in
    let s : l.k ≡ suc k = omega arith in
    let e : l.next ≡ filled (from 16 (suc k)) g xs xs = l.invariant ∙ ap (λ (j : ℕ). filled (from 16 j) g xs xs) s in
    rw (c.save.ensures, c.tick_one.ensures, e) (in_place g (from 16 (suc k)) (from 16 k) k xs _ h (down 16 k (omega arith)))

pub returns : goal.returns
returns c =
    let a = c.args in
    let xs = a.channels in
    let e : c.loop-k.k ≡ 0 = omega arith in
    let n : length xs ≡ 16 = search rules in
    let f : Channel → Channel = λ ch. saved a.due (ticked_by a.b ch) in
    c.loop-k.invariant ∙ rw e (alike (λ (j : ℕ). f) (from 16 0) (below 16) xs xs (from_all 16) ∙ all-below f 16 xs xs n n)
