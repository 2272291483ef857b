use Rattle.model.specs.Calls.{watchdog_preset}
use Rattle.pd3120.proofs.preset_watchdog.Goals as goal

pub returns : goal.returns
unfolding watchdog_preset
returns c = λ m e f. rw (e, f)
