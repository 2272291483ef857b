use borrow.Author.Tests.{le-leb, lt-leb}
use Rattle.std.proofs.Common.{rules, ◌≡◌, true, false, ◌&&◌, nat_le}
use Rattle.model.specs.Hours.{closed}
use Rattle.hours.proofs.closed.Goals as goal

-- `closed` meets its contract: each way out by the tests on it. Assumes nothing.
pub returns-then-clock-gt-LAST_MINUTE : goal.returns-then-clock-gt-LAST_MINUTE
unfolding closed
returns-then-clock-gt-LAST_MINUTE c = simp (lt-leb _ _ c.if-clock-gt-LAST_MINUTE.true)

pub returns-then-not-contains : goal.returns-then-not-contains
unfolding closed
returns-then-not-contains c =
    let e : nat_le 1 c.args.t.count && nat_le c.args.t.count 8 ≡ false = search rules in
    simp (e, le-leb _ _ c.if-clock-gt-LAST_MINUTE.false)

pub returns : goal.returns
unfolding closed
returns c =
    let e : nat_le 1 c.args.t.count && nat_le c.args.t.count 8 ≡ true = search rules in
    simp (c.any_opens.ensures, c.from.ensures, e, le-leb _ _ c.if-clock-gt-LAST_MINUTE.false)
