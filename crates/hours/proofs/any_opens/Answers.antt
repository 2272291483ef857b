use Rattle.std.proofs.Common.{rules, ◌≡◌, refl, ap, ◌∙◌, Bool, ◌||◌, List, [], ◌∷◌, ℕ}
use Rattle.std.proofs.lemmas.Iterator.{YieldsList-from_slice}
use Rattle.std.proofs.lemmas.Iterator.Search.{any_from_yields_List}
use Rattle.std.specs.List.{list_any}
use Rattle.model.specs.declared.Window.{Window}
use Rattle.model.specs.Hours.{opens, any_opens}
use Rattle.hours.proofs.any_opens.Goals as goal

-- any of them, one after another
one_by_one : (now : ℕ) (ws : List Window) → list_any (opens now) ws ≡ any_opens now ws
one_by_one now [] = refl
one_by_one now (w ∷ ws) = ap (λ (b : Bool). opens now w || b) (one_by_one now ws)

pub returns : goal.returns
returns c =
    let ws = c.args.windows.now in
    any_from_yields_List (opens c.args.now) _ _ c.any.result c.any.ensures.ran (YieldsList-from_slice ws cc) (λ x b q k. search rules)
    ∙ one_by_one c.args.now ws
