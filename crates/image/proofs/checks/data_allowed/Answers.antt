use Rattle.model.specs.Image.{kept_allowed}
use Rattle.image.proofs.checks.data_allowed.Goals as goal

pub returns : goal.returns
unfolding kept_allowed
returns c = simp (
  c.table_allowed-table2.ensures,
  c.table_allowed-table1.ensures,
  c.real_allowed-b.ensures,
  c.real_allowed-a.ensures,
)
