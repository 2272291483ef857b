use Rattle.writes.specs.Begun.{begun_with}
use Rattle.pd3120.proofs.Laws.Wire.{write-by}
use Rattle.pd3120.proofs.begin_write_in_place.Goals as goal

pub returns : goal.returns
returns c =
    let s = c.args in
    let k = c.clear in
    let b = c.begin_in_place-rest in
    let begun = begun_with b.new.s b.new.v b.new.ch b.result in
    let p = c.preset_watchdog in (
      b.ensures.0,
      b.ensures.1,
      λ m has. write-by m s.s.now s.v.now s.ch.now s.swno s.bytes.now has k.result k.ensures begun b.ensures p.result p.ensures,
    )
