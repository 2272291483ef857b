-- The facts of specs/Facts.antt about sizes and wire calls, by cases of the registers; those about one channel are in
-- Facts/Steps. Assumes nothing.
pub mod Steps
use Rattle.std.specs.Prelude.{Ok, Err}
use mathlib.Core.Path.{◌≡◌, refl, ap, ◌∙◌}
use mathlib.Core.Bool.{Bool, false}
use mathlib.Core.List.{List}
use Prim.Native.Nat.{ℕ, ◌*◌}
use lib.ListN.{length}
use Rattle.integers.specs.Bytes as Bytes
use Rattle.numbers.specs.Reals as Reals
use Rattle.model.specs.declared.Channel.{Channel}
use Rattle.model.specs.declared.Service.{Service}
use Rattle.model.specs.declared.Module.{Module}
use Rattle.model.specs.Questions.{Reply}
use Rattle.model.specs.declared.ServiceRegister.{ServiceRegister}
use Rattle.model.specs.declared.DigitalRegister.{DigitalRegister}
use Rattle.model.specs.declared.CommonRegister.{CommonRegister}
use Rattle.model.specs.declared.DataRegister.{DataRegister}
use Rattle.model.specs.declared.ServiceRegister.TheVariants.{Highest, Reset, FreeRunTimer, WDTimer, ModuleConfig, WDPreset, WriteEnable, CommonError}
use Rattle.model.specs.declared.DigitalRegister.TheVariants.{FlagReg, OutTimer, Counter, OutCurrent, OperatingTime, UserBytes, FBTimer, FBPreset}
use Rattle.model.specs.declared.DigitalRegister.TheVariants.{OutPreset, ChConfig, MinCurrent, MaxCurrent, UserReals, Maintenance, ChError}
use Rattle.model.specs.declared.CommonRegister.TheVariants.{OutFlags, InFlags, IOChError, ChError as CommonChError}
use Rattle.model.specs.declared.DataRegister.TheVariants.{RealA, RealB, TimerA, TimerB, LookUp1, LookUp2}
use Rattle.model.specs.State.{data_channel_of, channel_at, write_enable_of}
use Rattle.model.specs.Errors as Errors
use Rattle.model.specs.Registers.{Place, service, digital, common, data_channel, unlisted, place, size}
use Rattle.model.specs.Reads as Reads
use Rattle.model.specs.Reads.{bytes_read}
use Rattle.model.specs.Tick as Tick
use Rattle.model.specs.Writes as Writes
use Rattle.model.specs.Questions as Questions
use Rattle.model.specs.Calls.{read, write, step, cleared, watchdog_preset, write_leaves}
use Rattle.model.specs.Facts.{Sized, Wired}
use Rattle.model.proofs.Images.Data.{pairs-length}

-- ---- sizes
size-service : (r : ServiceRegister) (m : Module) → length (bytes_read (service r) m) ≡ size (service r)
unfolding bytes_read Reads.service_bytes Errors.common_error_bytes Errors.com_bytes Bytes.bytes_of Bytes.signed_bytes Reals.real_bytes
size-service Highest m = refl
size-service Reset m = refl
size-service FreeRunTimer m = refl
size-service WDTimer m = refl
size-service ModuleConfig m = refl
size-service WDPreset m = refl
size-service WriteEnable m = refl
size-service CommonError m = refl

-- a channel's register has the size of its row, where the user bytes have theirs
pub digital-size : (r : DigitalRegister) (levels : List Bool) (ch : Channel) → length ch.user ≡ 4 → length ch.reals ≡ 8 → length ch.maintenance ≡ 4 →
    length (Reads.digital_bytes r levels ch) ≡ size (digital 1 r)
unfolding Reads.digital_bytes Bytes.bytes_of Bytes.signed_bytes Reals.real_bytes
digital-size FlagReg levels ch u x t = refl
digital-size OutTimer levels ch u x t = refl
digital-size Counter levels ch u x t = refl
digital-size OutCurrent levels ch u x t = refl
digital-size OperatingTime levels ch u x t = refl
digital-size UserBytes levels ch u x t = u
digital-size FBTimer levels ch u x t = refl
digital-size FBPreset levels ch u x t = refl
digital-size OutPreset levels ch u x t = refl
digital-size ChConfig levels ch u x t = refl
digital-size MinCurrent levels ch u x t = refl
digital-size MaxCurrent levels ch u x t = refl
digital-size UserReals levels ch u x t = x
digital-size Maintenance levels ch u x t = t
digital-size ChError levels ch u x t = refl

size-digital : (k : ℕ) (r : DigitalRegister) (m : Module) → length (channel_at m k).user ≡ 4 → length (channel_at m k).reals ≡ 8 → length
    (channel_at m k).maintenance ≡ 4 →
    length (bytes_read (digital k r) m) ≡ size (digital k r)
unfolding bytes_read
size-digital k r m u x t = digital-size r (Tick.levels m) (channel_at m k) u x t

size-common : (r : CommonRegister) (m : Module) → length (bytes_read (common r) m) ≡ size (common r)
unfolding bytes_read Reads.common_bytes Bytes.bytes_of
size-common OutFlags m = refl
size-common InFlags m = refl
size-common IOChError m = refl
size-common CommonChError m = refl

size-data : (r : DataRegister) (m : Module) → length (data_channel_of m).table1.pairs ≡ 10 → length (data_channel_of m).table2.pairs ≡ 10 →
    length (bytes_read (data_channel r) m) ≡ size (data_channel r)
unfolding bytes_read Reads.data_bytes Bytes.bytes_of Reals.real_bytes
size-data RealA m e f = refl
size-data RealB m e f = refl
size-data TimerA m e f = refl
size-data TimerB m e f = refl
size-data LookUp1 m e f = pairs-length (data_channel_of m).table1.pairs ∙ ap (λ (n : ℕ). 8 * n) e
size-data LookUp2 m e f = pairs-length (data_channel_of m).table2.pairs ∙ ap (λ (n : ℕ). 8 * n) f

pub sized : Sized
sized = record { services = size-service; digitals = size-digital; commons = size-common; datas = size-data }

-- ---- wire calls
preset_by_read : (m : Module) (n : ℕ) (lent : List ℕ) → (step m (read n lent)).box.service.wd_timer ≡ (step m (read n lent)).box.shared.wd_preset
unfolding step watchdog_preset
preset_by_read m n lent = refl

preset_by_write : (m : Module) (n : ℕ) (bs : List ℕ) → (step m (write n bs)).box.service.wd_timer ≡ (step m (write n bs)).box.shared.wd_preset
unfolding step watchdog_preset
preset_by_write m n bs = refl

-- no write sets Act bit 3
errors-clear : (r : ServiceRegister) (v : Service) → v.act.wd_run_out ≡ false → (Writes.errors_written r v).act.wd_run_out ≡ false
unfolding Writes.errors_written Errors.service_acknowledged
errors-clear Highest v e = e
errors-clear Reset v e = refl
errors-clear FreeRunTimer v e = e
errors-clear WDTimer v e = e
errors-clear ModuleConfig v e = e
errors-clear WDPreset v e = e
errors-clear WriteEnable v e = e
errors-clear CommonError v e = e

written-clear : (p : Place) (bs : List ℕ) (m : Module) → m.service.act.wd_run_out ≡ false → (Writes.written p bs m).service.act.wd_run_out ≡ false
unfolding Writes.written
written-clear (service r) bs m e = errors-clear r m.service e
written-clear (digital k r) bs m e = e
written-clear (common r) bs m e = e
written-clear (data_channel r) bs m e = e
written-clear unlisted bs m e = e

cleared_by_write : (m : Module) (n : ℕ) (bs : List ℕ) → (step m (write n bs)).box.service.act.wd_run_out ≡ false
unfolding step watchdog_preset cleared
cleared_by_write m n bs = go (Questions.write_reply (write_enable_of m.shared) n (place n) bs)
  where
    go : (r : Reply) → (write_leaves r (place n) bs (cleared m)).service.act.wd_run_out ≡ false
    go (Ok q) = written-clear (place n) bs (cleared m) refl
    go (Err q) = refl

pub wired : Wired
unfolding Reads.after_read Writes.written Writes.every_written
wired =
    record {
      preset_by_read = preset_by_read;
      preset_by_write = preset_by_write;
      cleared_by_write = cleared_by_write;
      common_error_read = λ m. refl;
      common_error_written = λ m bs. refl;
    }
