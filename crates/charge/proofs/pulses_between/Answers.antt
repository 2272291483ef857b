use Rattle.std.proofs.Common.{rules, ◌≡◌, ◌+◌, ◌-◌, ◌%◌, ◌^◌, mod-lt, lit<, arith, w32, of_z}
use Rattle.integers.specs.Integers.{modulo}
use Rattle.integers.proofs.Laws.Residues.{modulo-bits, modulo-lt, modulo-sub}
use Rattle.charge.proofs.pulses_between.Goals as goal

pub returns : goal.returns
returns c =
    let a = c.args.later in
    let b = c.args.earlier in
    let n = 2 ^ 32 in
    let r = (of_z w32 a + (n - of_z w32 b)) % n in
    let back : (r + modulo b n) % n ≡ modulo a n =
    omega (arith, modulo-bits w32 a c.ranges.later, modulo-bits w32 b c.ranges.earlier, modulo-lt a n (lit< tt), modulo-lt b n (lit< tt)) in
    search (rules, modulo-sub a b r (mod-lt _ (lit< tt)) back)
