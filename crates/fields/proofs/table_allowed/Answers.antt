use Rattle.std.proofs.Common.{rules, ◌≡◌, refl, ap, ◌∙◌, List, ℕ, zero, suc, drop}
use Rattle.std.proofs.lemmas.Iterator.{YieldsList-from_slice}
use Rattle.std.proofs.lemmas.Iterator.Search.{all_from_yields_List}
use Rattle.std.proofs.Math.Seq.{drop-drop}
use Rattle.std.specs.List.{list_all}
use Rattle.std.specs.Simd.{first_chunks}
use Rattle.model.specs.Image.{real_allowed, pairs_allowed}
use Rattle.fields.proofs.table_allowed.Goals as goal

-- the Reals of n pairs
abbrev twice : ℕ → ℕ
twice zero = zero
twice (suc n) = suc (suc (twice n))

-- pair by pair, or Real by Real
by_reals : (n : ℕ) (l : List ℕ) → list_all real_allowed (first_chunks 4 (twice n) l) ≡ pairs_allowed n l
unfolding pairs_allowed
by_reals zero l = refl
by_reals (suc n) l = rw (drop-drop 4 4 l, by_reals n (drop 8 l)) refl

pub returns : goal.returns
returns c =
    let reals = c.as_chunks.result.0.now in
    all_from_yields_List real_allowed _ _ c.all.result c.all.ensures.ran (YieldsList-from_slice reals cc) (λ x b q k. search rules)
    ∙ ap (list_all real_allowed) c.as_chunks.ensures.front
    ∙ rw c.requires (by_reals 10 c.args.b.now)
