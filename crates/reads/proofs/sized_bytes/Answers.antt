use mathlib.Core.Path.{◌≡◌}
use lib.ListN.{length}
use borrow.Author.Rules.{rules}
use Rattle.model.proofs.Facts.{digital-size}
use Rattle.settings.specs.Levels.{levels_of}
use Rattle.reads.proofs.Laws.Held.{held-size}
use Rattle.reads.proofs.sized_bytes.Goals as goal

pub returns : goal.returns
returns c =
    let a = c.args in
    let ch = a.ch in
    let u : length ch.user ≡ 4 = search rules in
    let v : length ch.reals ≡ 8 = search rules in
    let w : length ch.maintenance ≡ 4 = search rules in
    record {
      bytes = c.digital_bytes.ensures;
      size = held-size _ _ _ c.digital_bytes.ensures (digital-size a.r (levels_of a.levels) ch u v w);
    }
