use native.Mathlib.Omega.{arith}
use Rattle.model.specs.Image.{setup_from, decode}
use Rattle.model.specs.Restored.{powered_up}
use Rattle.image.proofs.Laws.Sections.{has, section-at}
use Rattle.image.proofs.checks.Image.put_box.Goals as goal

pub returns : goal.returns
unfolding powered_up decode setup_from
returns c =
    let s = c in
    let img = s.args.self.now.bytes.now in
    let two = has img s.args.self.now.known 2 (omega arith) s.args.self.now.known.least in
    let module-at = section-at img s.args.self.now.known 0 (omega (arith, two)) (omega arith) in
    let channels-at = section-at img s.args.self.now.known 1 (omega (arith, two)) (omega arith) in
    rw (c.data_channel-m.ensures, c.put_channels.ensures, c.service_of-m.ensures, c.shared_of-shared.ensures, module-at, channels-at)
