use mathlib.Core.Bool.{not}
use Rattle.counts.specs.Counts.{is_negative}
use Rattle.model.specs.State.{in_flag_of, fb_timer_of}
use Rattle.model.specs.Settings.{functions, not_input, simulates_input, enables_underload}
use Rattle.model.specs.Channel.{over_load, has}
use Rattle.model.specs.Tick.{below_minimum, leaks}
use Rattle.review.specs.Load.{load_bits}
use Rattle.review.proofs.Laws.{on-bits}
use Rattle.review.proofs.find_on.Goals as goal

pub returns : goal.returns
unfolding load_bits
returns c =
    let a = c.args in
    let ch = a.ch in
    rw (
      c.weigh-2.ensures,
      c.weigh.ensures,
      c.enables_underload.ensures,
      c.negative.ensures,
      c.below_minimum.ensures,
      c.simulates_input-wired.ensures,
    )
    (on-bits (below_minimum ch.currents) (is_negative (fb_timer_of ch)) (enables_underload ch) (not (simulates_input ch)) (in_flag_of ch) (not_input (functions ch))
    (leaks a.s ch.currents) (has over_load ch.errors.act))
