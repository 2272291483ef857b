-- The code's place of a register and the model's, which are the same five cases; and a channel's place among the sixteen. Definitions only.
use Rattle.std.specs.Prelude.{◌≡◌, cond, ℕ, ◌-◌}
use Rattle.model.specs.Settings.{is_digital}
use Rattle.model.specs.Registers as Table
use Rattle.registers.specs.declared.Place.{Place}
use Rattle.registers.specs.declared.Place.TheVariants.{Service, Digital, Common, Data, Unlisted}

-- the place of the model that a place of the code stands for
abbrev pub placed : Place → Table.Place
placed (Service r) = Table.service r
placed (Digital k r) = Table.digital k r
placed (Common r) = Table.common r
placed (Data r) = Table.data_channel r
placed Unlisted = Table.unlisted

-- ---- the place of channel k among the sixteen, counted from 0; that of channel 1 where k is no channel's number
abbrev pub slot_of : ℕ → ℕ
slot_of k = cond (is_digital k) (k - 1) 0

-- i is the place of the channel that a register is of, where it is a digital channel's
abbrev pub OfChannel : ℕ → Table.Place → Type 0
OfChannel i (Table.service r) = Unit {0}
OfChannel i (Table.digital k r) = i ≡ k - 1
OfChannel i (Table.common r) = Unit {0}
OfChannel i (Table.data_channel r) = Unit {0}
OfChannel i Table.unlisted = Unit {0}
