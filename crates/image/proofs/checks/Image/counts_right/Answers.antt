use native.Mathlib.Omega.{arith}
use lib.ListN.{take}
use Rattle.model.specs.Image.{sections}
use Rattle.image.proofs.Laws.Sections.{own_first, own-all, counts-at}
use Rattle.image.proofs.checks.Image.counts_right.Goals as goal

pub returns-then-img-lt-WITH_DATA : goal.returns-then-img-lt-WITH_DATA
returns-then-img-lt-WITH_DATA c =
    let s = c in
    let img = s.args.self.now.bytes.now in
    counts-at img s.args.self.now.known (take 2 sections) (own_first img s.args.self.now.known 2 (omega arith) s.args.self.now.known.least c.if-img-lt-WITH_DATA.true)

pub returns : goal.returns
returns c =
    let s = c in
    let img = s.args.self.now.bytes.now in
    counts-at img s.args.self.now.known sections (own-all img s.args.self.now.known c.if-img-lt-WITH_DATA.false)
