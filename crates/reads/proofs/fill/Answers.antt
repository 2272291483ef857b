use mathlib.Core.Path.{refl, ap, ◌∙◌}
use mathlib.Core.Bool.{Bool}
use mathlib.Core.List.{List}
use Rattle.model.specs.Reads.{bytes_read, digital_bytes}
use Rattle.reads.specs.Held.{held}
use Rattle.reads.proofs.Laws.Held.{service-fits, digital-fits, common-fits, copies, copied}
use Rattle.reads.proofs.Laws.Readings.{shown-levels}
use Rattle.reads.proofs.fill.Goals as goal

pub copy_out-requires : goal.copy_out-requires
copy_out-requires c =
    let t = c in
    let room = rw c.in-Service.is at t.requires in
    let lent = t.args.buf.now in
    copies c.service_bytes.result lent _ c.service_bytes.ensures.size (service-fits c.in-Service.r) room

pub copy_out-requires-in-Digital : goal.copy_out-requires-in-Digital
copy_out-requires-in-Digital c =
    let t = c in
    let room = rw c.in-Digital.is at t.requires in
    let lent = t.args.buf.now in
    copies c.sized_bytes.result lent _ c.sized_bytes.ensures.size (digital-fits c.in-Digital.r) room

pub copy_out-requires-in-Common : goal.copy_out-requires-in-Common
copy_out-requires-in-Common c =
    let t = c in
    let room = rw c.in-Common.is at t.requires in
    let lent = t.args.buf.now in
    copies c.common_bytes.result lent _ c.common_bytes.ensures.size (common-fits c.in-Common.r) room

pub fill-requires : goal.fill-requires
fill-requires c = rw c.in-Data.is at c.requires

pub returns-in-Service : goal.returns-in-Service
unfolding bytes_read
returns-in-Service c =
    let t = c in
    let d = t.args.d in
    rw c.in-Service.is (λ i o cs n w own. c.copy_out.ensures ∙ copied _ _ _ (t.service_bytes.ensures.bytes d cs n w))

pub returns-in-Digital : goal.returns-in-Digital
unfolding bytes_read
returns-in-Digital c =
    let t = c in
    let r = c.in-Digital.r in
    let ch = t.args.ch in
    rw c.in-Digital.is (λ i o cs n w own. rw (← o, own) (c.copy_out-in-Digital.ensures
    ∙ copied _ _ _ (t.sized_bytes.ensures.bytes ∙ ap (λ (bs : List Bool). held (digital_bytes r bs ch)) (shown-levels _ cs n w))))

pub returns-in-Common : goal.returns-in-Common
unfolding bytes_read
returns-in-Common c =
    let t = c in
    rw c.in-Common.is (λ i o cs n w own. c.copy_out-in-Common.ensures ∙ copied _ _ _ (t.common_bytes.ensures.bytes cs n w))

pub returns-in-Data : goal.returns-in-Data
unfolding bytes_read
returns-in-Data c =
    let t = c in
    rw c.in-Data.is (λ i o cs n w own. c.fill.ensures)

pub returns-in-Unlisted : goal.returns-in-Unlisted
unfolding bytes_read
returns-in-Unlisted c = rw c.in-Unlisted.is (λ i o cs n w own. refl)
