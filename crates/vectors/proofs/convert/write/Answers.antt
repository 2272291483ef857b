use Rattle.std.proofs.Common.{sym, ◌∙◌}
use Rattle.numbers.proofs.Laws.Range.{preset-timer}
use Rattle.vectors.proofs.convert.write.Goals as goal

-- a timer takes whatever a preset does
pub timer_count-requires-in-112 : goal.timer_count-requires-in-112
timer_count-requires-in-112 c = preset-timer _ (sym c.preset_allowed.ensures ∙ c.in_ok-ask-in-112.ensures)
