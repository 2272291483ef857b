use Rattle.std.proofs.Common.{rules, ◌≡◌, refl, ap, ◌∙◌, List, [], ◌∷◌, ℕ, ◌+◌, sum}
use Rattle.std.proofs.iter.runs.Sources.{sums}
use Rattle.std.proofs.lemmas.List.Sums.{sum_by-cons}
use Rattle.model.specs.Image.{total}
use Rattle.image.proofs.checks.sum.Goals as goal

-- the sum in the words of std
as_total : (s : List ℕ) → sum s ≡ total s
as_total [] = refl
as_total (x ∷ s) = sum_by-cons (λ (n : ℕ). n) x s ∙ ap (λ (n : ℕ). x + n) (as_total s)

pub sum-requires-clause-fits : goal.sum-requires-clause-fits
sum-requires-clause-fits c = search (rules, sums)

pub returns : goal.returns
returns c =
    let e : c.sum.result ≡ sum c.args.s.now = search rules in
    e ∙ as_total c.args.s.now
