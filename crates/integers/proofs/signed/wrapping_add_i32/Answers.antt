use Rattle.std.proofs.Common.{ℕ, ◌+◌, ◌%◌, sym, ap, ap₂, ◌∙◌, w32, to_z}
use Rattle.integers.proofs.Laws.Residues.{modulo-bits, modulo-add, wrapped-is}
use Rattle.integers.proofs.signed.wrapping_add_i32.Goals as goal

pub returns : goal.returns
returns c =
    let a = c.args.a in
    let b = c.args.b in
    let sum = ap₂ (λ (x y : ℕ). (x + y) % 4294967296) (modulo-bits w32 a c.ranges.a) (modulo-bits w32 b c.ranges.b) in
    sym (wrapped-is w32 _ ∙ ap (to_z w32) (modulo-add a b ∙ sum))
