use Rattle.std.proofs.Common.{rules, ◌≡◌, refl, ◌∙◌, List, [], ◌∷◌, ℕ, Bool, ◌&&◌}
use Rattle.std.proofs.lemmas.Iterator.{YieldsList-from_slice}
use Rattle.std.proofs.lemmas.Iterator.Search.{all_from_yields_List}
use Rattle.std.specs.List.{list_all}
use Rattle.model.specs.Hours.{window_of}
use Rattle.model.specs.Questions.{question18, are_minutes}
use Rattle.questions.proofs.opening.are_minutes.Goals as goal

abbrev in_week : ℕ → Bool
in_week n = question18 (window_of n).start && question18 (window_of n).end

-- in the words of std
as_minutes : (s : List ℕ) → list_all in_week s ≡ are_minutes s
as_minutes [] = refl
as_minutes (n ∷ s) = rw (as_minutes s) refl

pub returns : goal.returns
returns c =
    let s = c.args.windows.now in
    let all = all_from_yields_List in_week _ _ c.all.result c.all.ensures.ran (YieldsList-from_slice s cc) (λ x b q k. search rules) in
    all ∙ as_minutes s
