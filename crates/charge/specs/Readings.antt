-- Document 02, Change 4, 1 and 2: a Counter value out of the box, by a wire read of its register. Definitions only.
use Rattle.std.specs.Prelude.{cond, List, ℕ, ◌+◌, ◌*◌, ℤ, pos, replicate, Result, Ok, Err}
use Rattle.model.specs.declared.Module.{Module}
use Rattle.model.specs.declared.Refusal.{Refusal}
use Rattle.model.specs.declared.Refusal.TheVariants.{NoChannel}
use Rattle.model.specs.State.{channel_at}
use Rattle.model.specs.Settings.{is_digital}
use Rattle.model.specs.Questions.{refusal_number}
use Rattle.model.specs.Calls.{read, Stepped, step}
use Rattle.charge.specs.declared.readings.Reading.{Reading}

-- Registers 1 and Digital 2: Counter of channel k
abbrev pub counter_swno : ℕ → ℕ
counter_swno k = k * 0x10 + 0x2

-- the four bytes that are lent for it
abbrev pub lent_bytes : List ℕ
lent_bytes = replicate 4 0

-- ---- what a reading shows: the box that it leaves, the box's own number, and the count, 0 where it is refused
pub record Shown : Type 0 where
  pub after : Module
  pub number : ℕ
  pub counter : ℤ

-- the box's own number where there is no such channel, and nothing is read
abbrev pub no_channel : Module → Shown
no_channel m = record { after = m; number = refusal_number NoChannel; counter = pos 0 }

-- a count, with the number that the wire read answers and the box that it leaves
abbrev pub read_as : Stepped → ℤ → Shown
read_as s counter = record { after = s.box; number = s.answer.number; counter = counter }

-- a reading of channel k: Counter as it stands in the box m
unfoldable pub reading : Module → ℕ → Shown
reading m k = cond (is_digital k) (read_as (step m (read (counter_swno k) lent_bytes)) (channel_at m k).counter) (no_channel m)

-- ---- what the code's reading shows: it has the count, or why there is none
abbrev pub number_of : Result ℤ Refusal → ℕ
number_of (Ok counter) = 0
number_of (Err why) = refusal_number why

abbrev pub counter_of : Result ℤ Refusal → ℤ
counter_of (Ok counter) = counter
counter_of (Err why) = pos 0

abbrev pub shown : Reading → Shown
shown r = record { after = r.after; number = number_of r.counter; counter = counter_of r.counter }
