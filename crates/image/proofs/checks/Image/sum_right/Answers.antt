use mathlib.Core.Path.{sym}
use borrow.Author.Rules.{rules}
use Prim.Native.Nat.{◌-◌, ◌≤◌}
use native.Mathlib.Omega.{arith}
use lib.ListN.{length, drop, length-drop}
use lib.Seq.{length-take-le, take_all}
use Rattle.image.proofs.Laws.Sections.{sum-at, at_most}
use Rattle.image.proofs.checks.Image.sum_right.Goals as goal

pub slice_bounds-sum-end : goal.slice_bounds-sum-end
slice_bounds-sum-end c =
    let img = c.args.self.now.bytes.now in
    sym (length-take-le (length img - 2) img (omega arith))

pub sum-n-requires : goal.sum-n-requires
sum-n-requires c =
    let s = c in
    let img = s.args.self.now.bytes.now in
    omega (arith, length-take-le (length img - 2) img (omega arith), at_most img s.args.self.now.known)

pub word_from-told-requires : goal.word_from-told-requires
word_from-told-requires c = search rules

pub returns : goal.returns
returns c =
    let s = c in
    let img = s.args.self.now.bytes.now in
    let rest : length (drop (length img - 2) img) ≤ length img - (length img - 2) = omega (arith, length-drop (length img - 2) img) in
    rw (c.from.ensures, c.sum-n.ensures, c.word_from-told.ensures, take_all _ (drop (length img - 2) img) rest) (sum-at img s.args.self.now.known)
