-- What the writes and reads of each register do to what decides a channel's InFlag, Counter and operating time, and to its windows (Inputs). Assumes nothing.
use mathlib.Core.Path.{◌≡◌, refl}
use mathlib.Core.Bool.{Bool, true, false}
use mathlib.Core.List.{List}
use Prim.Native.Nat.{ℕ}
use lib.ListN.{get_or}
use Rattle.integers.specs.Bytes.{number, signed_number}
use Rattle.counts.specs.Counts.{operating_of}
use Rattle.model.specs.declared.Channel.{Channel}
use Rattle.model.specs.declared.Shared.{Shared}
use Rattle.model.specs.declared.ServiceRegister.{ServiceRegister}
use Rattle.model.specs.declared.DigitalRegister.{DigitalRegister}
use Rattle.model.specs.declared.CommonRegister.{CommonRegister}
use Rattle.model.specs.declared.ServiceRegister.TheVariants.{Highest, Reset, FreeRunTimer, WDTimer, ModuleConfig, WDPreset, WriteEnable, CommonError}
use Rattle.model.specs.declared.DigitalRegister.TheVariants.{FlagReg, OutTimer, Counter, OutCurrent, OperatingTime, UserBytes, FBTimer, FBPreset}
use Rattle.model.specs.declared.DigitalRegister.TheVariants.{OutPreset, ChConfig, MinCurrent, MaxCurrent, UserReals, Maintenance, ChError}
use Rattle.model.specs.declared.CommonRegister.TheVariants.{OutFlags, InFlags, IOChError, ChError as CommonChError}
use Rattle.model.specs.Hours.{no_windows}
use Rattle.model.specs.Settings.{bit}
use Rattle.model.specs.Channel as Rules
use Rattle.model.specs.Image as Image
use Rattle.model.specs.Restored as Restored
use Rattle.model.specs.Reads as Reads
use Rattle.model.specs.Writes as Writes
use Rattle.model.proofs.Laws.Tests.{either}
use Rattle.model.proofs.Laws.Inputs.{Inputs, inputs_of, inputs, kept_if, time-kept-if, taken, simulated, in-simulate, in-changed, in-acknowledged, in-current}
use Rattle.model.proofs.Laws.Inputs.{in-flag_reg, in-out_flags}

unfoldable pub write-in : DigitalRegister → Bool → List ℕ → Inputs → Inputs
write-in FlagReg enabled bs n = taken simulated (bit 6 (get_or bs 0 0)) n
write-in OutTimer enabled bs n = n
write-in Counter enabled bs n = kept_if enabled (inputs_of n.level n.config (signed_number bs) n.kept n.operating n.kept-operating n.timetable)
write-in OutCurrent enabled bs n = n
write-in OperatingTime enabled bs n =
    time-kept-if enabled (inputs_of n.level n.config n.counter n.kept (operating_of (Writes.operating_from bs)) n.kept-operating n.timetable)
write-in UserBytes enabled bs n = n
write-in FBTimer enabled bs n = n
write-in FBPreset enabled bs n = n
write-in OutPreset enabled bs n = n
write-in ChConfig enabled bs n = inputs_of n.level (Image.config_from bs) n.counter n.kept n.operating n.kept-operating n.timetable
write-in MinCurrent enabled bs n = n
write-in MaxCurrent enabled bs n = n
write-in UserReals enabled bs n = n
write-in Maintenance enabled bs n = n
write-in ChError enabled bs n = n

in-keep_if : (b : Bool) (keep : Channel → Channel) → ((x : Channel) → inputs (keep x) ≡ inputs x) → (ch : Channel) → inputs (Writes.keep_if b keep ch) ≡ inputs ch
in-keep_if b keep h ch = either (λ (x : Channel). inputs x ≡ inputs ch) b (h ch) refl

in-keep_counter : (b : Bool) (ch : Channel) → inputs (Writes.keep_if b Rules.keep_counter ch) ≡ kept_if b (inputs ch)
unfolding kept_if
in-keep_counter true ch = refl
in-keep_counter false ch = refl

in-keep_operating : (b : Bool) (ch : Channel) → inputs (Writes.keep_if b Rules.keep_operating ch) ≡ time-kept-if b (inputs ch)
unfolding time-kept-if
in-keep_operating true ch = refl
in-keep_operating false ch = refl

pub in-written : (r : DigitalRegister) (s : Shared) (bs : List ℕ) (ch : Channel) → inputs (Writes.digital_written r s bs ch) ≡ write-in r
    s.write_enable bs (inputs ch)
unfolding write-in Writes.digital_written Rules.ch_config_written
in-written FlagReg s bs ch = in-flag_reg _ ch
in-written OutTimer s bs ch = refl
in-written Counter s bs ch = in-keep_counter s.write_enable _
in-written OutCurrent s bs ch = in-current s _ ch
in-written OperatingTime s bs ch = in-keep_operating s.write_enable _
in-written UserBytes s bs ch = in-keep_if s.write_enable Rules.keep_user (λ x. refl) _
in-written FBTimer s bs ch = refl
in-written FBPreset s bs ch = refl
in-written OutPreset s bs ch = refl
in-written ChConfig s bs ch = in-changed _ _
in-written MinCurrent s bs ch = refl
in-written MaxCurrent s bs ch = refl
in-written UserReals s bs ch = refl
in-written Maintenance s bs ch = refl
in-written ChError s bs ch = refl

pub in-read : (r : DigitalRegister) (ch : Channel) → inputs (Reads.digital_read r ch) ≡ inputs ch
in-read FlagReg ch = refl
in-read OutTimer ch = refl
in-read Counter ch = refl
in-read OutCurrent ch = refl
in-read OperatingTime ch = refl
in-read UserBytes ch = refl
in-read FBTimer ch = refl
in-read FBPreset ch = refl
in-read OutPreset ch = refl
in-read ChConfig ch = refl
in-read MinCurrent ch = refl
in-read MaxCurrent ch = refl
in-read UserReals ch = refl
in-read Maintenance ch = refl
in-read ChError ch = in-acknowledged ch

-- what a service register does to it: a reset clears InFlag, gives Counter and the operating time their kept values, and empties the windows
unfoldable pub every_in : ServiceRegister → Inputs → Inputs
every_in Highest n = n
every_in Reset n = inputs_of false n.config n.kept n.kept (operating_of n.kept-operating) n.kept-operating no_windows
every_in FreeRunTimer n = n
every_in WDTimer n = n
every_in ModuleConfig n = n
every_in WDPreset n = n
every_in WriteEnable n = n
every_in CommonError n = n

pub in-every : (r : ServiceRegister) (ch : Channel) → inputs (Writes.every_written r ch) ≡ every_in r (inputs ch)
unfolding every_in Writes.every_written Restored.restored
in-every Highest ch = refl
in-every Reset ch = refl
in-every FreeRunTimer ch = refl
in-every WDTimer ch = refl
in-every ModuleConfig ch = refl
in-every WDPreset ch = refl
in-every WriteEnable ch = refl
in-every CommonError ch = in-acknowledged ch

-- and a common one
unfoldable pub common-in : CommonRegister → List ℕ → ℕ → Inputs → Inputs
common-in OutFlags bs i n = n
common-in InFlags bs i n = taken simulated (bit i (number bs)) n
common-in IOChError bs i n = n
common-in CommonChError bs i n = n

pub in-common : (r : CommonRegister) (bs : List ℕ) (i : ℕ) (ch : Channel) → inputs (Writes.common_written r bs i ch) ≡ common-in r bs i (inputs ch)
unfolding common-in Writes.common_written
in-common OutFlags bs i ch = in-out_flags _ ch
in-common InFlags bs i ch = in-simulate _ ch
in-common IOChError bs i ch = refl
in-common CommonChError bs i ch = refl
