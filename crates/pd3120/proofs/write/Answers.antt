use mathlib.Core.Path.{refl}
use Rattle.model.specs.Calls.{watchdog_preset}
use Rattle.reads.specs.Reading.{box_of}
use Rattle.pd3120.proofs.Laws.Wire.{cleared-box, write-answer}
use Rattle.pd3120.proofs.write.Goals as goal

pub returns : goal.returns
unfolding watchdog_preset
returns c =
    let s = c.args in
    let m = s.m in
    let k = c.clear-cleared in
    let w = c.write-done in
    let after = w.result.after in
    write-answer m s.swno s.bytes.now (box_of m.shared k.result m.data_channel m.channels) w.result _ _
    (cleared-box m k.result (k.ensures m refl)) w.ensures (rw (c.preset_watchdog-next.ensures after refl refl)) c.error_bits-bits.ensures
