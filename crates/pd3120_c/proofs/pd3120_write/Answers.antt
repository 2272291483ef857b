use mathlib.Core.Path.{◌≡◌, refl, sym, ap, subst, ◌∙◌}
use mathlib.Core.List.{List, ◌++◌}
use Prim.Native.Nat.{ℕ, suc, ◌≤◌}
use native.Mathlib.Numerals.{add-one}
use native.Mathlib.Omega.{arith}
use lib.ListN.{length, take, drop, set}
use lib.Seq.{length-take-le}
use borrow.Author.Rules.{rules}
use Rattle.model.specs.declared.Channel.{Channel}
use Rattle.model.specs.declared.DataChannel.{DataChannel}
use Rattle.model.specs.declared.Module.{Module}
use Rattle.model.specs.State.{with_channels}
use Rattle.model.specs.Image.{image_size}
use Rattle.model.proofs.Laws.Filled.{filled, none, in_place, below, below_none, up}
use Rattle.registers.specs.Places.{placed}
use Rattle.writes.specs.Begun.{begun_with, data_by, each_written, first_each}
use Rattle.writes.proofs.Laws.Begun.{first_done, all_of}
use Rattle.pd3120.specs.declared.WireBits.{WireBits}
use Rattle.pd3120_c.specs.Codes.{reply_code}
use Rattle.pd3120_c.proofs.Laws.Turns.{done_up, written, write_ends, write-length}
use Rattle.pd3120_c.proofs.pd3120_write.Goals as goal
use Rattle.pd3120_c.proofs.pd3120_write.Goals.{then-rest, else-rest}

pub loop-k-init : goal.loop-k-init
loop-k-init c =
    let r = c.begin_write_in_place-rest.result in
    let first = take r.count c.if-rest.m.channels in
    sym (none (each_written (placed r.place) r.word) (below 0) first first (λ j l. below_none j))

pub loop-k-preserved : goal.loop-k-preserved
loop-k-preserved c =
    let r = c.begin_write_in_place-rest.result in
    let k = c.loop-k.k in
    let first = take r.count c.if-rest.m.channels in
    let g : ℕ → Channel → Channel = each_written (placed r.place) r.word in
    rw (c.each.ensures, c.loop-k.invariant, add-one) (in_place g (below k) (below (suc k)) k first _ (omega arith) (up k))

pub pack-requires : goal.pack-requires
pack-requires c =
    let m = c.args.m.now in
    let l : length m.channels ≡ 16 = search rules in
    let r = c.begin_write_in_place-rest in
    let b = begun_with r.new.s r.new.v r.new.ch r.result in
    let e = write-length m c.args.swno c.args.bytes.now c.wire_slot-at.result b l c.wire_slot-at.ensures.0 r.ensures in
    subst (λ (k : ℕ). k ≤ image_size) (sym e) (omega arith)

pub returns : goal.returns
returns c =
    let m = c.args.m.now in
    let l : length m.channels ≡ 16 = search rules in
    let n = c.args.swno in
    let bs = c.args.bytes.now in
    let i = c.wire_slot-at.result in
    let r = c.begin_write_in_place-rest in
    let b = begun_with r.new.s r.new.v r.new.ch r.result in
    let put = λ (d : DataChannel). written b (set m.channels i b.channel) d in
    let wrote : c.if-rest.m ≡ put (data_by m.shared n bs m.data_channel) = elim c.if-rest.branch [
      | then-rest w ↦ w.m-is ∙ ap put w.data.ensures
      | else-rest w ↦ w.m-is ∙ ap put (sym (r.ensures.1 m.data_channel w.if-rest.false))
    ] in
    let m1 : Module = c.if-rest.m in
    let cs : List Channel = m1.channels in
    let count = r.result.count in
    let g : ℕ → Channel → Channel = each_written (placed r.result.place) r.result.word in
    let first = take count cs in
    let sixteen : length cs ≡ 16 = search rules in
    let long : length first ≡ count = length-take-le count cs (omega (arith, sixteen, r.ensures.0)) in
    let e : c.loop-k.k ≡ count = omega (arith, long) in
    let items = c.loop-k.invariant ∙ ap (λ (j : ℕ). filled (below j) g first first) e ∙ first_done g count first ∙ all_of g count 0 first long in
    let turned : c.loop-k.ch-items ++ drop count cs ≡ first_each g count cs = ap (λ (xs : List Channel). xs ++ drop count cs) items in
    let after : Module = with_channels (c.loop-k.ch-items ++ drop count cs) m1 in
    let ended : after ≡ with_channels (done_up g count cs) m1 = ap (λ (xs : List Channel). with_channels xs m1) (turned ∙ sym (first_done g count cs)) in
    write_ends m n bs i b m1 count after _ l c.wire_slot-at.ensures.0 r.ensures wrote refl ended
    (c.pack.ensures ∙ ap (λ (w : WireBits). reply_code r.result.reply w.data_error w.general_error) c.error_bits.ensures)
