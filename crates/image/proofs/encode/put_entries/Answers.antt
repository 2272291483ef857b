use borrow.Author.Rules.{rules}
use mathlib.Core.Path.{◌≡◌, refl, sym, ap, ◌∙◌}
use mathlib.Core.List.{◌++◌, map}
use Prim.Native.Nat.{ℕ, ◌+◌, ◌*◌}
use native.Mathlib.Numerals.{add-one}
use native.Mathlib.Omega.{arith}
use lib.ListN.{length, take, get_or, length-map, get_or-map}
use lib.Seq.{take-length}
use Rattle.model.specs.State.{nothing}
use Rattle.model.specs.Image.{entry_of, entry_bytes, entries_bytes}
use Rattle.buffers.proofs.Laws.Paste.{pasted-none, pasted_length, pasted-on, pasted-as}
use Rattle.image.proofs.Laws.Entries.{entries-more}
use Rattle.image.proofs.encode.put_entries.Goals as goal

pub loop-k-init : goal.loop-k-init
unfolding entries_bytes
loop-k-init c = (sym (pasted-none c.args.image.now 10), refl, refl)

pub loop-k-preserved : goal.loop-k-preserved
loop-k-preserved c =
    let k = c.loop-k.k in
    let image = c.args.image.now in
    let cs = c.args.channels.now in
    let es = map entry_of cs in
    let n : length cs ≡ 16 = search rules in
    let done = entries_bytes (take k es) in
    let e = c.entry_bytes.result in
    let here : e ≡ entry_bytes (get_or es k (entry_of nothing)) = c.entry_bytes.ensures ∙ ap entry_bytes (sym (get_or-map entry_of cs k nothing)) in
    let more : done ++ e ≡ entries_bytes (take (k + 1) es) =
    rw (here, add-one) (sym (entries-more es k (entry_of nothing) (omega (arith, n, length-map cs entry_of)))) in
    let next = pasted-on image 10 done e (c.loop-k.invariant.0, c.loop-k.invariant.2) c.put_array.ensures (omega arith) in
    let put = pasted-as image 10 more next in
    let long : length (entries_bytes (take (k + 1) es)) ≡ 44 * (k + 1) = put.1 ∙ omega arith in
    (put.0, ap length put.0 ∙ pasted_length image 10 _ (omega (arith, long)), long)

pub returns : goal.returns
returns c =
    let l = c.loop-k in
    let cs = c.args.channels.now in
    let es = map entry_of cs in
    let n : length cs ≡ 16 = search rules in
    let e : l.k ≡ length es = omega (arith, n, length-map cs entry_of) in
    let whole : entries_bytes (take l.k es) ≡ entries_bytes es = ap (λ (j : ℕ). entries_bytes (take j es)) e ∙ ap entries_bytes (take-length es) in
    pasted-as c.args.image.now 10 whole (l.invariant.0, l.invariant.2 ∙ omega (arith, e, n, length-map cs entry_of))
