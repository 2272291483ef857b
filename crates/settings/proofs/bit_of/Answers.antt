use Rattle.std.proofs.Common.{rules, ◌∙◌, arith}
use borrow.Author.Tests.{le-ltb}
use Rattle.settings.proofs.Laws.Levels.{none_above}
use Rattle.settings.proofs.bit_of.Goals as goal

pub returns-else-k-lt16 : goal.returns-else-k-lt16
returns-else-k-lt16 c = le-ltb c.args.k 16 c.if-k-lt16.false ∙ none_above c.args.k c.args.word (search rules) (omega arith)
