use Rattle.std.proofs.Common.{rules, leb, ◌∙◌}
use Rattle.std.proofs.lemmas.Iterator.{YieldsList-from_slice}
use Rattle.std.proofs.lemmas.Iterator.Search.{all_from_yields_List}
use Rattle.charge.proofs.Laws.Loops.{prices-all}
use Rattle.charge.proofs.prices_allowed.Goals as goal

pub returns : goal.returns
returns c =
    let prices = c.args.prices.now in
    all_from_yields_List (λ p. leb p 100000) _ _ c.all.result c.all.ensures.ran (YieldsList-from_slice prices cc) (λ x b q k. search rules)
    ∙ prices-all prices
