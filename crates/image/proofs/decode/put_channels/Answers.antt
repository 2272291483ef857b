use Rattle.std.proofs.Common.{arith, ◌≡◌, refl, sym, ap, ◌∙◌, List, [], ℕ, zero, suc, ◌<◌, length, get_or, drop}
use native.Mathlib.Numerals.{add-one}
use Rattle.std.specs.Simd.{first_chunks}
use Rattle.model.specs.Image.{entry_from, entries_from}
use Rattle.model.specs.Restored.{restored}
use Rattle.model.proofs.Laws.Filled.{none, one_more, below, below_none, all-below, up}
use Rattle.model.proofs.Images.Sequence.{entries-count}
use Rattle.image.proofs.decode.put_channels.Goals as goal

-- entry k of the row, from its own 44 bytes
entry_of_chunk : (n m : ℕ) (l : List ℕ) (k : ℕ) → k < n → k < m → entry_from (get_or (first_chunks 44 m l) k []) ≡ get_or (entries_from n l) k (entry_from [])
unfolding entries_from
entry_of_chunk zero m l k h g = absurd (omega arith)
entry_of_chunk (suc n) zero l k h g = absurd (omega arith)
entry_of_chunk (suc n) (suc m) l zero h g = refl
entry_of_chunk (suc n) (suc m) l (suc k) h g = entry_of_chunk n m (drop 44 l) k (omega arith) (omega arith)

pub loop-k-init : goal.loop-k-init
loop-k-init c = sym (none (λ (j : ℕ). restored) (below 0) (entries_from 16 c.args.s.now) _ (λ j h. below_none j))

pub loop-k-preserved : goal.loop-k-preserved
loop-k-preserved c =
    let l = c.args.s.now in
    let k = c.loop-k.k in
    let es = entries_from 16 l in
    let low : k < 16 = omega arith in
    let n : k < length es = rw (entries-count 16 l) low in
    let ch : c.channel_of.result ≡ restored (get_or es k (entry_from [])) =
    c.channel_of.ensures ∙ ap (λ (rows : List (List ℕ)). restored (entry_from (get_or rows k []))) c.as_chunks.ensures.front
    ∙ ap restored (entry_of_chunk 16 _ l k low (omega (arith, c.requires.0))) in
    rw (ch, c.loop-k.invariant, add-one) (one_more (λ (j : ℕ). restored) (below k) (below (suc k)) k es _ (entry_from []) n (omega arith) (up k))

pub returns : goal.returns
returns c =
    let l = c.args.s.now in
    let e : c.loop-k.k ≡ 16 = omega arith in
    c.loop-k.invariant ∙ rw e (all-below restored 16 (entries_from 16 l) _ (entries-count 16 l) c.requires.1)
