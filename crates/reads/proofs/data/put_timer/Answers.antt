use Rattle.std.proofs.Common.{ap, ◌∙◌, Float}
use Rattle.model.specs.Calls.{overwritten}
use Rattle.numbers.specs.Reals.{real_bytes}
use Rattle.reads.proofs.data.put_timer.Goals as goal

pub returns : goal.returns
returns c = c.put_real.ensures ∙ ap (λ (x : Float). overwritten (real_bytes x) c.args.buf.now) c.timer_real.ensures
