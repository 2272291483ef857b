use Rattle.std.proofs.Common.{rules, arith, ◌≡◌, refl, ap, sym, ◌∙◌, List, [], ◌∷◌, map, ℕ, zero, suc, ◌+◌, length, get_or, drop}
use lib.ListN.{drop_of_length-le}
use Rattle.fields.specs.contracts.fn.table_from.from_fn as C
use Rattle.std.proofs.Math.Seq.{drop-cons}
use native.Mathlib.Numerals.{add-one}
use denote.Param.Members.{Mut, Called}
use Rattle.std.specs.Array.{IsFromFnResultFrom}
use Rattle.std.specs.Simd.{first_chunks}
use Rattle.model.specs.Image.{pairs_from}
use Rattle.model.proofs.Laws.Tables.{pair_from, pair-alone}
use Rattle.fields.proofs.table_from.Goals as goal

-- what f gives at the n numbers from i on
abbrev given : {B : Type 0} → (ℕ → B) → ℕ → ℕ → List B
given f i zero = []
given f i (suc n) = f i ∷ given f (i + 1) n

-- calls of a closure that stays as it was, K, give what f does
made : {F B : Type 0} (g : Mut F (ℕ × Unit {0}) B) (K : F → Type 0) (f : ℕ → B) → ((p q : F) (i : ℕ) (y : B) → K p → Called g p (i, tt) y q → K q × (y ≡ f i))
    → (p : F) (ys : List B) (i n : ℕ) → K p → i + n ≡ length ys → IsFromFnResultFrom g p ys i n → drop i ys ≡ given f i n
made g K f each p ys i zero k e r = drop_of_length-le ys (omega arith)
made g K f each p ys i (suc n) k e r =
    let c = each p r.0 i r.1 k r.3 in
    let rest = made g K f each r.0 ys (i + 1) n c.0 (omega arith) r.4 in
    let x : get_or ys i (f i) ≡ f i = r.2.1 (f i) ∙ c.1 in
    drop-cons ys i (f i) (omega arith) ∙ rw (x, ← rest, add-one) refl

-- each pair from its own eight bytes
by_pairs : (n : ℕ) (l : List ℕ) → map pair_from (first_chunks 8 n l) ≡ pairs_from n l
unfolding pairs_from
by_pairs zero l = refl
by_pairs (suc n) l = rw (pair-alone l, by_pairs n (drop 8 l)) refl

pub returns : goal.returns
returns c =
    let t = c.from_fn.ensures.items in
    let l = c.args.b.now in
    let pairs = c.as_chunks.result.0.now in
    let front : pairs ≡ first_chunks 8 10 l = c.as_chunks.ensures.front ∙ rw c.requires refl in
    let all = made _ (λ f. (C.captures f).pairs.now ≡ pairs) (λ i. pair_from (get_or pairs i []))
    (λ p q i y k h. (search rules, search rules)) _ c.from_fn.result 0 10 refl (sym t.long) t.each in
    let e : c.from_fn.result ≡ pairs_from 10 l =
    all ∙ ap (λ (ps : List (List ℕ)). given (λ i. pair_from (get_or ps i [])) 0 10) front ∙ by_pairs 10 l in
    λ i. record { pairs = e i }
