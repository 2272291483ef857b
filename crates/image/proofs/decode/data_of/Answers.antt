use mathlib.Core.Path.{◌∙◌}
use Rattle.model.specs.Image.{kept_from}
use Rattle.image.proofs.decode.data_of.Goals as goal

pub returns : goal.returns
unfolding kept_from
returns c = c.restore_data.ensures ∙ simp (
  c.table_from-table2.ensures,
  c.table_from-table1.ensures,
  c.real_from-b.ensures,
  c.real_from-a.ensures,
)
