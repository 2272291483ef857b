-- Document 01, Registers and question 7, and document 02, Change 1, 2 and Change 2, 2: which bytes each register allows, and what an accepted write does.
-- Definitions only.
use Rattle.std.specs.Prelude.{Bool, true, cond, ◌&&◌, List, [], ◌∷◌, map, ℕ, suc, eqb, leb, get_or}
use Rattle.std.specs.Float.Ieee.Scale.{finite}
use Rattle.integers.specs.Bytes.{number, signed_number}
use Rattle.counts.specs.declared.TimerCount.{TimerCount}
use Rattle.counts.specs.declared.OperatingCount.{OperatingCount}
use Rattle.counts.specs.Counts.{timer, timer_units, operating_units, operating_of}
use Rattle.numbers.specs.Reals.{real_from, count_of, units_of}
use Rattle.numbers.specs.Written.{timer_allowed, preset_allowed, operating_allowed, limit_allowed}
use Rattle.model.specs.declared.Config.{Config}
use Rattle.model.specs.declared.Channel.{Channel}
use Rattle.model.specs.declared.Shared.{Shared}
use Rattle.model.specs.declared.Service.{Service}
use Rattle.model.specs.declared.DataChannel.{DataChannel}
use Rattle.model.specs.declared.Module.{Module}
use Rattle.model.specs.declared.ServiceRegister.{ServiceRegister}
use Rattle.model.specs.declared.DigitalRegister.{DigitalRegister}
use Rattle.model.specs.declared.CommonRegister.{CommonRegister}
use Rattle.model.specs.declared.DataRegister.{DataRegister}
use Rattle.model.specs.declared.ServiceRegister.TheVariants.{Highest, Reset, FreeRunTimer, WDTimer, ModuleConfig, WDPreset, WriteEnable, CommonError}
use Rattle.model.specs.declared.DigitalRegister.TheVariants.{FlagReg, OutTimer, Counter, OutCurrent, OperatingTime, UserBytes, FBTimer, FBPreset}
use Rattle.model.specs.declared.DigitalRegister.TheVariants.{OutPreset, ChConfig, MinCurrent, MaxCurrent, UserReals, Maintenance, ChError}
use Rattle.model.specs.declared.CommonRegister.TheVariants.{OutFlags, InFlags, IOChError, ChError as CommonChError}
use Rattle.model.specs.declared.DataRegister.TheVariants.{RealA, RealB, TimerA, TimerB, LookUp1, LookUp2}
use Rattle.model.specs.State.{with_counter, with_operating, with_user, with_reals, with_maintenance, set_out_timer, set_fb_timer, set_out_preset}
use Rattle.model.specs.State.{set_fb_preset, set_min_current, set_max_current, free_run_timer_of, module_config_of, wd_preset_of, write_enable_of, save_ticks_of, shared_of}
use Rattle.model.specs.State.{wd_timer_of, service_of, module_of, with_channels, channel_at, put_channel}
use Rattle.model.specs.State.{data_channel_of, with_data, set_real_a, set_real_b, set_timer_a, set_timer_b, set_look_up1, set_look_up2, keep_real_a, keep_real_b}
use Rattle.model.specs.Settings.{bit}
use Rattle.model.specs.Channel.{acknowledged, simulate, take_current, flag_reg_written, out_flags_written, ch_config_written}
use Rattle.model.specs.Channel.{keep_counter, keep_operating, keep_user}
use Rattle.model.specs.Errors.{service_acknowledged}
use Rattle.model.specs.Registers.{Place, service, digital, common, data_channel, unlisted}
use Rattle.model.specs.Image.{config_from, config_allowed, module_config_allowed, entry_of, real_allowed, table_allowed, table_from, data_of}
use Rattle.model.specs.Restored.{restored, restored_shared, restored_data, no_service_bits, his_after_reset}

-- ---- question 7
-- Service F: every byte is 0
abbrev pub all_zero : List ℕ → Bool
all_zero [] = true
all_zero (b ∷ bs) = eqb b 0 && all_zero bs

abbrev pub service_allowed : ServiceRegister → List ℕ → Bool
service_allowed Highest bs = true
service_allowed Reset bs = eqb (get_or bs 0 0) 0xFF
service_allowed FreeRunTimer bs = true
service_allowed WDTimer bs = preset_allowed (real_from bs)
service_allowed ModuleConfig bs = module_config_allowed bs
service_allowed WDPreset bs = preset_allowed (real_from bs)
service_allowed WriteEnable bs = leb (get_or bs 0 0) 1
service_allowed CommonError bs = all_zero bs

abbrev pub digital_allowed : DigitalRegister → List ℕ → Bool
digital_allowed FlagReg bs = true
digital_allowed OutTimer bs = timer_allowed (real_from bs)
digital_allowed Counter bs = true
digital_allowed OutCurrent bs = finite (real_from bs)
digital_allowed OperatingTime bs = operating_allowed (real_from bs)
digital_allowed UserBytes bs = true
digital_allowed FBTimer bs = timer_allowed (real_from bs)
digital_allowed FBPreset bs = preset_allowed (real_from bs)
digital_allowed OutPreset bs = preset_allowed (real_from bs)
digital_allowed ChConfig bs = config_allowed bs
digital_allowed MinCurrent bs = limit_allowed (real_from bs)
digital_allowed MaxCurrent bs = limit_allowed (real_from bs)
digital_allowed UserReals bs = true
digital_allowed Maintenance bs = true
digital_allowed ChError bs = true

-- Change 1, 2: every Real finite, each of the twenty too; the timers as OutTimer
abbrev pub data_allowed : DataRegister → List ℕ → Bool
data_allowed RealA bs = real_allowed bs
data_allowed RealB bs = real_allowed bs
data_allowed TimerA bs = timer_allowed (real_from bs)
data_allowed TimerB bs = timer_allowed (real_from bs)
data_allowed LookUp1 bs = table_allowed bs
data_allowed LookUp2 bs = table_allowed bs

abbrev pub allowed : Place → List ℕ → Bool
allowed (service r) bs = service_allowed r bs
allowed (digital k r) bs = digital_allowed r bs
allowed (common r) bs = true
allowed (data_channel r) bs = data_allowed r bs
allowed unlisted bs = true

-- ---- Change 5, 2: the counts that allowed Reals give
abbrev pub timer_from : List ℕ → TimerCount
timer_from bs = timer (count_of timer_units (real_from bs))

abbrev pub operating_from : List ℕ → OperatingCount
operating_from bs = record { 0 = units_of operating_units (real_from bs) }

-- ---- a service register, in four parts: the shared record, the service channel's own errors, each channel, and the data channel
abbrev pub set_module_config : Config → Shared → Shared
set_module_config g s = shared_of (free_run_timer_of s) g (wd_preset_of s) (write_enable_of s) (save_ticks_of s) s.clock

abbrev pub set_wd_preset : TimerCount → Shared → Shared
set_wd_preset t s = shared_of (free_run_timer_of s) (module_config_of s) t (write_enable_of s) (save_ticks_of s) s.clock

abbrev pub set_write_enable : Bool → Shared → Shared
set_write_enable b s = shared_of (free_run_timer_of s) (module_config_of s) (wd_preset_of s) b (save_ticks_of s) s.clock

-- Setup image 3: a reset restores the kept settings, as power-up does
unfoldable pub shared_written : ServiceRegister → List ℕ → Shared → Shared
shared_written Highest bs s = s
shared_written Reset bs s = restored_shared (module_config_of s) (wd_preset_of s)
shared_written FreeRunTimer bs s = s
shared_written WDTimer bs s = s
shared_written ModuleConfig bs s = set_module_config (config_from bs) s
shared_written WDPreset bs s = set_wd_preset (timer_from bs) s
shared_written WriteEnable bs s = set_write_enable (eqb (get_or bs 0 0) 1) s
shared_written CommonError bs s = s

-- Setup image 3: His after a reset; and Registers 8
unfoldable pub errors_written : ServiceRegister → Service → Service
errors_written Highest v = v
errors_written Reset v = service_of (wd_timer_of v) no_service_bits his_after_reset
errors_written FreeRunTimer v = v
errors_written WDTimer v = v
errors_written ModuleConfig v = v
errors_written WDPreset v = v
errors_written WriteEnable v = v
errors_written CommonError v = service_acknowledged v

unfoldable pub every_written : ServiceRegister → Channel → Channel
every_written Highest ch = ch
every_written Reset ch = restored (entry_of ch)
every_written FreeRunTimer ch = ch
every_written WDTimer ch = ch
every_written ModuleConfig ch = ch
every_written WDPreset ch = ch
every_written WriteEnable ch = ch
every_written CommonError ch = acknowledged ch

-- a reset restores what the data channel keeps
unfoldable pub data_reset : ServiceRegister → DataChannel → DataChannel
data_reset Highest d = d
data_reset Reset d = restored_data (data_of d)
data_reset FreeRunTimer d = d
data_reset WDTimer d = d
data_reset ModuleConfig d = d
data_reset WDPreset d = d
data_reset WriteEnable d = d
data_reset CommonError d = d

abbrev pub service_written : ServiceRegister → List ℕ → Module → Module
service_written r bs m =
    module_of (shared_written r bs m.shared) (errors_written r m.service) (map (every_written r) m.channels) (data_reset r (data_channel_of m))

-- ---- a digital register. A channel 17: only registers 2, 4 and 5 have working values of their own, kept while WriteEnable is TRUE. Change 2, 2: a written
-- OperatingTime has no quarters
abbrev pub keep_if : {A : Type 0} → Bool → (A → A) → A → A
keep_if enabled keep x = cond enabled (keep x) x

unfoldable pub digital_written : DigitalRegister → Shared → List ℕ → Channel → Channel
digital_written FlagReg s bs ch = flag_reg_written (get_or bs 0 0) ch
digital_written OutTimer s bs ch = set_out_timer (timer_from bs) ch
digital_written Counter s bs ch = keep_if (write_enable_of s) keep_counter (with_counter (signed_number bs) ch)
digital_written OutCurrent s bs ch = take_current s (real_from bs) ch
digital_written OperatingTime s bs ch = keep_if (write_enable_of s) keep_operating (with_operating (operating_of (operating_from bs)) ch)
digital_written UserBytes s bs ch = keep_if (write_enable_of s) keep_user (with_user bs ch)
digital_written FBTimer s bs ch = set_fb_timer (timer_from bs) ch
digital_written FBPreset s bs ch = set_fb_preset (timer_from bs) ch
digital_written OutPreset s bs ch = set_out_preset (timer_from bs) ch
digital_written ChConfig s bs ch = ch_config_written (config_from bs) ch
digital_written MinCurrent s bs ch = set_min_current (real_from bs) ch
digital_written MaxCurrent s bs ch = set_max_current (real_from bs) ch
digital_written UserReals s bs ch = with_reals bs ch
digital_written Maintenance s bs ch = with_maintenance bs ch
digital_written ChError s bs ch = ch

-- ---- a common register: what a channel's bit does to it, and which bit of the word that is
abbrev pub bit_written : CommonRegister → Bool → Channel → Channel
bit_written OutFlags b ch = out_flags_written b ch
bit_written InFlags b ch = simulate b ch
bit_written IOChError b ch = ch
bit_written CommonChError b ch = ch

unfoldable pub common_written : CommonRegister → List ℕ → ℕ → Channel → Channel
common_written r bs i ch = bit_written r (bit i (number bs)) ch

-- each channel with its place, from place i on
abbrev pub each : (ℕ → Channel → Channel) → ℕ → List Channel → List Channel
each f i [] = []
each f i (ch ∷ cs) = f i ch ∷ each f (suc i) cs

-- ---- a data register. Change 1, 2: RealA and RealB are kept while WriteEnable is TRUE
unfoldable pub data_written : DataRegister → Shared → List ℕ → DataChannel → DataChannel
data_written RealA s bs d = keep_if (write_enable_of s) keep_real_a (set_real_a (real_from bs) d)
data_written RealB s bs d = keep_if (write_enable_of s) keep_real_b (set_real_b (real_from bs) d)
data_written TimerA s bs d = set_timer_a (timer_from bs) d
data_written TimerB s bs d = set_timer_b (timer_from bs) d
data_written LookUp1 s bs d = set_look_up1 (table_from bs) d
data_written LookUp2 s bs d = set_look_up2 (table_from bs) d

unfoldable pub written : Place → List ℕ → Module → Module
written (service r) bs m = service_written r bs m
written (digital k r) bs m = put_channel k (digital_written r m.shared bs (channel_at m k)) m
written (common r) bs m = with_channels (each (common_written r bs) 0 m.channels) m
written (data_channel r) bs m = with_data (data_written r m.shared bs (data_channel_of m)) m
written unlisted bs m = m
