use Rattle.std.proofs.Common.{rules}
use mathlib.Core.Path.{ap, ◌∙◌}
use Prim.Native.Nat.{ℕ}
use lib.IntN.{pos}
use lib.Signed.{lt_z}
use lib.Ieee.{binary32, round}
use mir.Syntax.{w32}
use mir.Val.{to_z, of_z}
use mir.ValLaws.{to_z-of_z}
use Rattle.numbers.specs.Reals.{real_of}
use Rattle.numbers.proofs.Laws.Count.{real-signed}
use Rattle.numbers.proofs.times.timer_real.Goals as goal

pub returns : goal.returns
returns c =
    let t = c.args.t in
    let z = to_z w32 (of_z w32 t.0) in
    c.real_of.ensures
    ∙ ap (λ (n : ℕ). round binary32 (lt_z z (pos 0)) n 256) c.unsigned_abs.ensures.value
    ∙ real-signed 256 z
    ∙ ap (real_of 256) (to_z-of_z w32 t.0 (search rules))
