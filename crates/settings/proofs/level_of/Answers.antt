use Rattle.std.proofs.Common.{rules, arith, ◌≡◌, true, ◌-◌, ◌<◌, ◌&&◌, nat_le}
use Rattle.settings.proofs.Laws.Levels.{level-at}
use Rattle.settings.proofs.level_of.Goals as goal

pub returns-in-Channel : goal.returns-in-Channel
returns-in-Channel c =
    let k = c.in-Channel.k in
    let levels = c.args.levels in
    let e : nat_le 1 k && nat_le k 16 ≡ true = search rules in
    let l : k - 1 < 16 = grind (arith, e) in
    simp (c.bit_of.ensures, c.from.ensures, c.in-Channel.is, e, level-at (k - 1) levels l)
