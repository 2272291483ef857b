-- No call takes what the data channel keeps out of its ranges. Assumes nothing.
use mathlib.Core.Bool.{Bool, true, false, cond}
use mathlib.Core.List.{List}
use Prim.Native.Nat.{ℕ}
use lib.Dec.{T}
use Rattle.numbers.specs.Reals.{real_from}
use Rattle.model.specs.declared.DataChannel.{DataChannel}
use Rattle.model.specs.declared.Shared.{Shared}
use Rattle.model.specs.declared.ServiceRegister.{ServiceRegister}
use Rattle.model.specs.declared.ServiceRegister.TheVariants.{Highest, Reset, FreeRunTimer, WDTimer, ModuleConfig, WDPreset, WriteEnable, CommonError}
use Rattle.model.specs.declared.DataRegister.{DataRegister}
use Rattle.model.specs.declared.DataRegister.TheVariants.{RealA, RealB, TimerA, TimerB, LookUp1, LookUp2}
use Rattle.model.specs.State.{write_enable_of, set_real_a, set_real_b, keep_real_a, keep_real_b}
use Rattle.model.specs.Tick.{data_timers_run, data_ticked}
use Rattle.model.specs.Image.{data_of}
use Rattle.model.specs.Writes.{data_allowed, data_reset, data_written}
use Rattle.model.proofs.Images.Data.{Level, level-from, table-held, DataHeld}
use Rattle.model.proofs.Images.Boxes.{DataSound}

-- a reset restores what is kept
pub data-reset-sound : (r : ServiceRegister) (d : DataChannel) → DataSound d → DataSound (data_reset r d)
unfolding data_reset
data-reset-sound Highest d h = h
data-reset-sound Reset d h = (h.0, h.0.a)
data-reset-sound FreeRunTimer d h = h
data-reset-sound WDTimer d h = h
data-reset-sound ModuleConfig d h = h
data-reset-sound WDPreset d h = h
data-reset-sound WriteEnable d h = h
data-reset-sound CommonError d h = h

-- with one kept value anew
with-a : (d : DataChannel) → DataHeld (data_of d) → Level d.reals.a → DataHeld (data_of (keep_real_a d))
with-a d h x = record { a = x; b = h.b; table1 = h.table1; table2 = h.table2 }

with-b : (d : DataChannel) → DataHeld (data_of d) → Level d.reals.b → DataHeld (data_of (keep_real_b d))
with-b d h x = record { a = h.a; b = x; table1 = h.table1; table2 = h.table2 }

one_of : (b : Bool) (x y : DataChannel) → DataSound x → DataSound y → DataSound (cond b x y)
one_of true x y p q = p
one_of false x y p q = q

-- an allowed write
pub data-written-sound : (r : DataRegister) (s : Shared) (bs : List ℕ) (d : DataChannel) → T (data_allowed r bs) → DataSound d → DataSound (data_written r s bs d)
unfolding data_written
data-written-sound RealA s bs d a h =
    let x = level-from bs a in
    let next = set_real_a (real_from bs) d in
    one_of (write_enable_of s) (keep_real_a next) next (with-a next h.0 x, x) (h.0, x)
data-written-sound RealB s bs d a h =
    let next = set_real_b (real_from bs) d in
    one_of (write_enable_of s) (keep_real_b next) next (with-b next h.0 (level-from bs a), h.1) h
data-written-sound TimerA s bs d a h = h
data-written-sound TimerB s bs d a h = h
data-written-sound LookUp1 s bs d a h = (record { a = h.0.a; b = h.0.b; table1 = table-held bs a; table2 = h.0.table2 }, h.1)
data-written-sound LookUp2 s bs d a h = (record { a = h.0.a; b = h.0.b; table1 = h.0.table1; table2 = table-held bs a }, h.1)

-- a tick may keep RealA
pub data-ticked-sound : (due : Bool) (d : DataChannel) → DataSound d → DataSound (data_ticked due d)
unfolding data_ticked data_timers_run
data-ticked-sound true d h = (with-a d h.0 h.1, h.1)
data-ticked-sound false d h = h
