use native.Mathlib.Omega.{arith}
use Rattle.model.specs.Image.{setup_from, decode}
use Rattle.image.proofs.Laws.Sections.{has, lacks, section-at, section-older}
use Rattle.image.proofs.checks.Image.data_channel.Goals as goal

pub returns-then-img-lt-WITH_DATA : goal.returns-then-img-lt-WITH_DATA
unfolding decode setup_from
returns-then-img-lt-WITH_DATA c =
    let s = c in
    let img = s.args.self.now.bytes.now in
    let without = lacks img s.args.self.now.known 3 c.if-img-lt-WITH_DATA.true in
    rw (c.data_of.ensures, section-older img s.args.self.now.known 2 (omega (arith, without)) (omega arith))

pub returns : goal.returns
unfolding decode setup_from
returns c =
    let s = c in
    let img = s.args.self.now.bytes.now in
    let with = has img s.args.self.now.known 3 (omega arith) c.if-img-lt-WITH_DATA.false in
    rw (c.data_of-2.ensures, section-at img s.args.self.now.known 2 (omega (arith, with)) (omega arith))
