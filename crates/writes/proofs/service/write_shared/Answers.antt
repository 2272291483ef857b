use Rattle.numbers.proofs.Laws.Range.{preset-timer}
use Rattle.writes.proofs.service.write_shared.Goals as goal

-- a timer allows whatever a preset does
pub timer_count-next-requires : goal.timer_count-next-requires
timer_count-next-requires c = rw c.real_from.ensures (preset-timer _ (rw c.in-WDPreset.is at c.requires).1)
