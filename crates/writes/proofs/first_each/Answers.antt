use Rattle.std.proofs.Common.{rules, arith, ◌≡◌, sym, ap, ◌∙◌, List, ◌++◌, ℕ, suc, length, take, drop}
use native.Mathlib.Numerals.{add-one}
use lib.Seq.{length-take-le}
use Rattle.model.specs.declared.Channel.{Channel}
use Rattle.model.proofs.Laws.Filled.{filled, none, in_place, below, below_none, up}
use Rattle.registers.specs.Places.{placed}
use Rattle.writes.specs.Begun.{each_written}
use Rattle.writes.proofs.Laws.Begun.{first_done, all_of}
use Rattle.writes.proofs.first_each.Goals as goal

pub loop-k-init : goal.loop-k-init
loop-k-init c =
    let a = c.args in
    let first = take a.count a.channels in
    sym (none (each_written (placed a.p) a.word) (below 0) first first (λ j l. below_none j))

pub loop-k-preserved : goal.loop-k-preserved
loop-k-preserved c =
    let a = c.args in
    let k = c.loop-k.k in
    let first = take a.count a.channels in
    let g : ℕ → Channel → Channel = each_written (placed a.p) a.word in
    rw (c.each.ensures, c.loop-k.invariant, add-one) (in_place g (below k) (below (suc k)) k first _ (omega arith) (up k))

pub returns : goal.returns
returns c =
    let a = c.args in
    let g : ℕ → Channel → Channel = each_written (placed a.p) a.word in
    let first = take a.count a.channels in
    let n : length a.channels ≡ 16 = search rules in
    let long : length first ≡ a.count = length-take-le a.count a.channels (omega arith) in
    let e : c.loop-k.k ≡ a.count = omega arith in
    let all = c.loop-k.invariant ∙ ap (λ (m : ℕ). filled (below m) g first first) e ∙ first_done g a.count first ∙ all_of g a.count 0 first long in
    ap (λ (xs : List Channel). xs ++ drop a.count a.channels) all
