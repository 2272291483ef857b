use Rattle.numbers.proofs.Laws.Range.{preset-timer}
use Rattle.writes.proofs.digital.write_digital.Goals as goal

-- a timer allows whatever a preset does
pub timer_count-next-requires-in-FBPreset : goal.timer_count-next-requires-in-FBPreset
timer_count-next-requires-in-FBPreset c = rw c.real_from-in-FBPreset.ensures (preset-timer _ (rw c.in-FBPreset.is at c.requires).1)

pub timer_count-next-requires-in-OutPreset : goal.timer_count-next-requires-in-OutPreset
timer_count-next-requires-in-OutPreset c = rw c.real_from-in-OutPreset.ensures (preset-timer _ (rw c.in-OutPreset.is at c.requires).1)
