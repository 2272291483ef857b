use Rattle.ticks.specs.Begun.{begun_of}
use Rattle.ticks.proofs.begin.Goals as goal

pub returns : goal.returns
unfolding begun_of
returns c = simp (
  c.levels_looked_at.ensures,
  c.select_unpredictable.ensures,
  c.save_due.ensures,
  c.tick_service.ensures,
  c.tick_shared-after.ensures,
  c.runs_out-ran_out.ensures,
)
