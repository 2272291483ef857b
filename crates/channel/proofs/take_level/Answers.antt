use mathlib.Core.Path.{◌≡◌, refl}
use mathlib.Core.Bool.{Bool, true, false, not, ◌&&◌}
use Rattle.model.specs.declared.Channel.{Channel}
use Rattle.model.specs.State.{in_flag_of}
use Rattle.model.specs.Settings.{simulates_input}
use Rattle.model.specs.Channel.{input_becomes, take_level}
use Rattle.model.proofs.Laws.Tests.{picked}
use Rattle.channel.proofs.take_level.Goals as goal

-- `take_level` meets its contract: InFlag as it is, taken once more, leaves the channel as it is. Assumes nothing.
never : (b : Bool) → b && not b ≡ false
never true = refl
never false = refl

as-it-is : (ch : Channel) → input_becomes (in_flag_of ch) ch ≡ ch
unfolding input_becomes
as-it-is ch = rw (never (in_flag_of ch))

pub returns : goal.returns
unfolding take_level
returns c =
    let a = c.args in
    let ch = a.ch in
    rw (
      c.input_becomes.ensures,
      c.select_unpredictable-level.ensures,
      c.simulates_input.ensures,
      picked (λ (l : Bool). input_becomes l ch) (simulates_input ch) (in_flag_of ch) a.b,
      as-it-is ch,
    )
