use Rattle.image.specs.Parts.{module_front}
use mathlib.Core.Path.{◌≡◌}
use mathlib.Core.List.{[], ◌∷◌, ◌++◌}
use native.Mathlib.Omega.{arith}
use Rattle.buffers.proofs.Laws.Paste.{pasted-on, pasted-as}
use Rattle.image.proofs.encode.put_module.Goals as goal

pub returns : goal.returns
unfolding module_front
returns c =
    let buf = c.args.image.now in
    let config = c.config_bytes-config in
    let preset = c.timer_bytes-preset in
    let ab = config.result ++ preset.result in
    let two = pasted-on buf 0 (1 ∷ []) ab c.put_array.ensures c.put_two.ensures (omega arith) in
    let all = pasted-on buf 0 (1 ∷ ab) (16 ∷ []) two c.put_array-2.ensures (omega arith) in
    let whole : (1 ∷ ab) ++ (16 ∷ []) ≡ module_front c.args.s = rw (config.ensures, preset.ensures) in
    pasted-as buf 0 whole all
