use Rattle.std.proofs.Common.{rules, ◌≡◌, true, false, ◌&&◌, nat_le}
use Rattle.model.specs.Settings.{reference_of}
use Rattle.settings.proofs.reference_of.Goals as goal

pub returns-then-contains : goal.returns-then-contains
unfolding reference_of
returns-then-contains c =
    let e : nat_le 1 c.args.n && nat_le c.args.n 16 ≡ true = search rules in
    simp e

pub returns : goal.returns
unfolding reference_of
returns c =
    let e : nat_le 1 c.args.n && nat_le c.args.n 16 ≡ false = search rules in
    simp e
