use Rattle.std.proofs.Common.{arith, rules, ◌≡◌, refl, ap, ◌∙◌, List, ℕ, zero, suc, take, drop}
use Rattle.std.proofs.lemmas.Iterator.{YieldsList-from_slice}
use Rattle.std.proofs.lemmas.Iterator.Search.{all_from_yields_List}
use Rattle.std.specs.List.{list_all}
use Rattle.std.specs.Simd.{first_chunks}
use Rattle.model.specs.Image.{entry_allowed, entries_allowed}
use Rattle.image.proofs.Laws.Entries.{few-chunks}
use Rattle.image.proofs.checks.entries_allowed.Goals as goal

-- entry by entry
by_entries : (n : ℕ) (l : List ℕ) → list_all entry_allowed (first_chunks 44 n l) ≡ entries_allowed n l
unfolding entries_allowed
by_entries zero l = refl
by_entries (suc n) l = rw (by_entries n (drop 44 l)) refl

pub returns : goal.returns
returns c =
    let entries = take 16 c.as_chunks.result.0.now in
    all_from_yields_List entry_allowed _ _ c.all.result c.all.ensures.ran (YieldsList-from_slice entries cc) (λ x b q k. search rules)
    ∙ ap (λ (es : List (List ℕ)). list_all entry_allowed (take 16 es)) c.as_chunks.ensures.front
    ∙ ap (list_all entry_allowed) (few-chunks 16 _ c.args.s.now (omega (arith, c.requires)))
    ∙ by_entries 16 c.args.s.now
