use borrow.Author.Rules.{rules}
use mathlib.Core.Path.{◌≡◌, refl, sym, ap, ◌∙◌}
use mathlib.Core.List.{◌++◌}
use Prim.Native.Nat.{◌+◌, ◌*◌}
use native.Mathlib.Numerals.{add-one}
use native.Mathlib.Omega.{arith}
use lib.Ieee.{nan}
use lib.ListN.{length, take}
use lib.Seq.{take_all}
use Rattle.model.specs.declared.Pair.{Pair}
use Rattle.model.specs.Reads.{pairs_bytes}
use Rattle.model.proofs.Laws.Tables.{bytes-more}
use Rattle.buffers.proofs.Laws.Paste.{pasted-none, pasted_length, pasted-on, pasted-as}
use Rattle.buffers.proofs.put_pairs.Goals as goal

-- the pair that stands for one past the last
abbrev none : Pair
none = record { x = nan; y = nan }

pub loop-k-init : goal.loop-k-init
unfolding pairs_bytes
loop-k-init c = (search rules, sym (pasted-none c.args.buf.now c.args.at), refl, refl)

pub loop-k-preserved : goal.loop-k-preserved
loop-k-preserved c =
    let l = c in
    let s = l in
    let k = l.loop-k.k in
    let d = s.args.buf.now in
    let at = s.args.at in
    let ps = s.args.pairs.now in
    let n : length ps ≡ 10 = search rules in
    let low = c.loop-k-test.true in
    let x = c.bytes_of-x in
    let y = c.bytes_of-y in
    let done = pairs_bytes (take k ps) in
    let two = x.result ++ y.result in
    let more : done ++ two ≡ pairs_bytes (take (k + 1) ps) = rw (y.ensures, x.ensures, add-one) (sym (bytes-more ps k none (omega (arith, n, low)))) in
    let next = pasted-on d at done two (l.loop-k.invariant.1, l.loop-k.invariant.3) c.put_two.ensures (omega (arith, s.requires, low)) in
    let put = pasted-as d at more next in
    let long : length (pairs_bytes (take (k + 1) ps)) ≡ 8 * (k + 1) = put.1 ∙ omega arith in
    (omega arith, put.0, ap length put.0 ∙ pasted_length d at _ (omega (arith, long, s.requires, low)), long)

pub shape_of-buf : goal.shape_of-buf
shape_of-buf c = c.loop-k.invariant.2

pub returns : goal.returns
returns c =
    let s = c in
    let l = c.loop-k in
    let ps = s.args.pairs.now in
    let n : length ps ≡ 10 = search rules in
    let e : l.k ≡ 10 = omega arith in
    let all : pairs_bytes (take l.k ps) ≡ pairs_bytes ps = ap pairs_bytes (take_all l.k ps (omega (arith, n))) in
    pasted-as s.args.buf.now s.args.at all (l.invariant.1, l.invariant.3 ∙ omega arith)
