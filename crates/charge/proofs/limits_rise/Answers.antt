use Rattle.std.proofs.Common.{rules, ltb}
use Rattle.std.proofs.lemmas.List.Sorted.{answers_always}
use Rattle.charge.proofs.Laws.Loops.{rising-adjacent}
use Rattle.charge.proofs.limits_rise.Goals as goal

pub returns : goal.returns
returns c =
    let each = answers_always _ _ _ (λ f a r q k. search rules) in
    rising-adjacent c.args.limits.now c.is_sorted_by.result (c.is_sorted_by.ensures.cases ltb each)
