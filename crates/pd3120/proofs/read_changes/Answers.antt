use Rattle.pd3120.proofs.Laws.Wire.{read_by}
use Rattle.pd3120.proofs.read_changes.Goals as goal

pub returns-clause-step : goal.returns-clause-step
returns-clause-step c =
    let s = c.args in
    let k = c.clear-ready in
    let r = c.read-done in
    let p = c.preset_watchdog in
    λ m has xs ws. read_by m s.s s.v s.ch s.d s.w s.swno s.buf.now has xs ws k.result k.ensures r.result r.ensures.answer
    p.result p.ensures
    _ r.ensures.buffer _ _ c.data_error.ensures c.general_error.ensures
