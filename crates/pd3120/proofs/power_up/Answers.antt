use native.Mathlib.Omega.{arith}
use Rattle.pd3120.proofs.Laws.Bytes.{are-bytes}
use Rattle.pd3120.proofs.Laws.Powering.{powered-up}
use Rattle.pd3120.proofs.power_up.Goals as goal

pub returns : goal.returns
returns c =
    let img = c.args.img.now in
    let e = c.power_up.ensures in
    powered-up img _ (are-bytes img (λ i. omega (arith, c.type_inv.img i))) e.after e.reply
