use Rattle.std.proofs.Common.{◌≡◌, take}
use Rattle.model.specs.Errors.{any, has_his, has_act}
use Rattle.errors.proofs.words.any_errors.Given as goal

abbrev pub invariant-loop-ch : goal.invariant-loop-ch
invariant-loop-ch l =
    let done = take l.ch-index l.ch-items in
    (l.his ≡ any has_his done) × (l.act ≡ any has_act done)
