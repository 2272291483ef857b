use Rattle.std.proofs.Common.{◌≡◌, ◌+◌, ◌-◌, ◌%◌, ◌^◌, sym, ap, ◌∙◌, mod-lt, lit<, arith, w32, to_z, of_z}
use Rattle.integers.specs.Integers.{modulo}
use Rattle.integers.proofs.Laws.Residues.{modulo-bits, modulo-lt, modulo-sub, wrapped-is}
use Rattle.integers.proofs.signed.wrapping_sub_i32.Goals as goal

pub returns : goal.returns
returns c =
    let a = c.args.a in
    let b = c.args.b in
    let n = 2 ^ 32 in
    let r = (of_z w32 a + (n - of_z w32 b)) % n in
    let back : (r + modulo b n) % n ≡ modulo a n =
    omega (arith, modulo-bits w32 a c.ranges.a, modulo-bits w32 b c.ranges.b, modulo-lt a n (lit< tt), modulo-lt b n (lit< tt)) in
    sym (wrapped-is w32 _ ∙ ap (to_z w32) (sym (modulo-sub a b r (mod-lt _ (lit< tt)) back)))
