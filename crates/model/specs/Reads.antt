-- Document 01, Registers, and document 02, Change 1, 2: the bytes that each register gives when it is read, and what reading leaves. Definitions only.
use Rattle.std.specs.Prelude.{Bool, false, List, [], ◌∷◌, ◌++◌, map, ℕ, pos}
use Rattle.integers.specs.Bytes.{bytes_of, signed_bytes}
use Rattle.counts.specs.declared.TimerCount.{TimerCount}
use Rattle.counts.specs.Counts.{timer_units, operating_units}
use Rattle.numbers.specs.Reals.{real_of, real_bytes}
use Rattle.model.specs.declared.Config.{Config}
use Rattle.model.specs.declared.Channel.{Channel}
use Rattle.model.specs.declared.Pair.{Pair}
use Rattle.model.specs.declared.DataChannel.{DataChannel}
use Rattle.model.specs.declared.Service.{Service}
use Rattle.model.specs.declared.Module.{Module}
use Rattle.model.specs.declared.ServiceRegister.{ServiceRegister}
use Rattle.model.specs.declared.DigitalRegister.{DigitalRegister}
use Rattle.model.specs.declared.CommonRegister.{CommonRegister}
use Rattle.model.specs.declared.DataRegister.{DataRegister}
use Rattle.model.specs.declared.ServiceRegister.TheVariants.{Highest, Reset, FreeRunTimer, WDTimer, ModuleConfig, WDPreset, WriteEnable, CommonError}
use Rattle.model.specs.declared.DigitalRegister.TheVariants.{FlagReg, OutTimer, Counter, OutCurrent, OperatingTime, UserBytes, FBTimer, FBPreset}
use Rattle.model.specs.declared.DigitalRegister.TheVariants.{OutPreset, ChConfig, MinCurrent, MaxCurrent, UserReals, Maintenance, ChError}
use Rattle.model.specs.declared.CommonRegister.TheVariants.{OutFlags, InFlags, IOChError, ChError as CommonChError}
use Rattle.model.specs.declared.DataRegister.TheVariants.{RealA, RealB, TimerA, TimerB, LookUp1, LookUp2}
use Rattle.model.specs.State.{out_flag_of, in_flag_of, control, fb_status_of, out_timer_of, fb_timer_of, out_preset_of, fb_preset_of}
use Rattle.model.specs.State.{free_run_timer_of, module_config_of, wd_preset_of, write_enable_of, wd_timer_of, data_channel_of, with_service_record, channel_at, put_channel}
use Rattle.model.specs.Settings.{in_a, in_b_of}
use Rattle.model.specs.Channel.{acknowledged}
use Rattle.model.specs.Errors.{bit_value, byte_of, word_of, any, error_byte, has_his, has_act, ch_error, common_error_bytes, service_acknowledged}
use Rattle.model.specs.Registers.{Place, service, digital, common, data_channel, unlisted, highest_swno}
use Rattle.model.specs.Tick.{levels}

-- Registers 3: a count of 1/256 s as a Real
abbrev pub timer_bytes : TimerCount → List ℕ
timer_bytes t = real_bytes (real_of timer_units t.0)

-- Service 9 and Digital 9
abbrev pub config_bytes : Config → List ℕ
config_bytes g = g.enablebit ∷ g.functions ∷ g.ref_a ∷ g.ref_b ∷ []

-- A channel 1: FlagReg, the highest bit first
unfoldable pub flag_reg : List Bool → Channel → ℕ
flag_reg levels ch = byte_of (out_flag_of ch ∷ in_flag_of ch ∷ in_a levels ch ∷ in_b_of levels ch ∷ control ch ∷ fb_status_of ch ∷ has_act ch ∷ false ∷ [])

-- Common $110 to $112: a word with a bit for each channel
abbrev pub channel_word : (Channel → Bool) → List Channel → List ℕ
channel_word p cs = bytes_of 2 (word_of (map p cs))

unfoldable pub service_bytes : ServiceRegister → Module → List ℕ
service_bytes Highest m = bytes_of 2 highest_swno
service_bytes Reset m = 0 ∷ []
service_bytes FreeRunTimer m = signed_bytes 4 (free_run_timer_of m.shared).0
service_bytes WDTimer m = timer_bytes (wd_timer_of m.service)
service_bytes ModuleConfig m = config_bytes (module_config_of m.shared)
service_bytes WDPreset m = timer_bytes (wd_preset_of m.shared)
service_bytes WriteEnable m = bit_value (write_enable_of m.shared) ∷ []
service_bytes CommonError m = common_error_bytes m

unfoldable pub digital_bytes : DigitalRegister → List Bool → Channel → List ℕ
digital_bytes FlagReg levels ch = flag_reg levels ch ∷ []
digital_bytes OutTimer levels ch = timer_bytes (out_timer_of ch)
digital_bytes Counter levels ch = signed_bytes 4 ch.counter
digital_bytes OutCurrent levels ch = real_bytes ch.currents.out
digital_bytes OperatingTime levels ch = real_bytes (real_of operating_units (pos ch.operating.0))
digital_bytes UserBytes levels ch = ch.user
digital_bytes FBTimer levels ch = timer_bytes (fb_timer_of ch)
digital_bytes FBPreset levels ch = timer_bytes (fb_preset_of ch)
digital_bytes OutPreset levels ch = timer_bytes (out_preset_of ch)
digital_bytes ChConfig levels ch = config_bytes ch.config
digital_bytes MinCurrent levels ch = real_bytes ch.currents.min
digital_bytes MaxCurrent levels ch = real_bytes ch.currents.max
digital_bytes UserReals levels ch = ch.reals
digital_bytes Maintenance levels ch = ch.maintenance
digital_bytes ChError levels ch = ch_error (error_byte ch.errors.his) (error_byte ch.errors.act)

unfoldable pub common_bytes : CommonRegister → List Channel → List ℕ
common_bytes OutFlags cs = channel_word out_flag_of cs
common_bytes InFlags cs = channel_word in_flag_of cs
common_bytes IOChError cs = channel_word has_his cs ++ channel_word has_act cs
common_bytes CommonChError cs = ch_error (bit_value (any has_his cs)) (bit_value (any has_act cs))

-- Change 1, 2: a table's bytes are X1, Y1, X2, Y2 and so on
unfoldable pub pairs_bytes : List Pair → List ℕ
pairs_bytes [] = []
pairs_bytes (p ∷ ps) = (real_bytes p.x ++ real_bytes p.y) ++ pairs_bytes ps

unfoldable pub data_bytes : DataRegister → DataChannel → List ℕ
data_bytes RealA d = real_bytes d.reals.a
data_bytes RealB d = real_bytes d.reals.b
data_bytes TimerA d = timer_bytes d.timers.a
data_bytes TimerB d = timer_bytes d.timers.b
data_bytes LookUp1 d = pairs_bytes d.table1.pairs
data_bytes LookUp2 d = pairs_bytes d.table2.pairs

unfoldable pub bytes_read : Place → Module → List ℕ
bytes_read (service r) m = service_bytes r m
bytes_read (digital k r) m = digital_bytes r (levels m) (channel_at m k)
bytes_read (common r) m = common_bytes r m.channels
bytes_read (data_channel r) m = data_bytes r (data_channel_of m)
bytes_read unlisted m = []

-- Registers 7: CommonError acknowledges the service channel's own errors, and ChError those of its channel; no other read changes anything
abbrev pub service_read : ServiceRegister → Service → Service
service_read Highest v = v
service_read Reset v = v
service_read FreeRunTimer v = v
service_read WDTimer v = v
service_read ModuleConfig v = v
service_read WDPreset v = v
service_read WriteEnable v = v
service_read CommonError v = service_acknowledged v

abbrev pub digital_read : DigitalRegister → Channel → Channel
digital_read FlagReg ch = ch
digital_read OutTimer ch = ch
digital_read Counter ch = ch
digital_read OutCurrent ch = ch
digital_read OperatingTime ch = ch
digital_read UserBytes ch = ch
digital_read FBTimer ch = ch
digital_read FBPreset ch = ch
digital_read OutPreset ch = ch
digital_read ChConfig ch = ch
digital_read MinCurrent ch = ch
digital_read MaxCurrent ch = ch
digital_read UserReals ch = ch
digital_read Maintenance ch = ch
digital_read ChError ch = acknowledged ch

unfoldable pub after_read : Place → Module → Module
after_read (service r) m = with_service_record (service_read r m.service) m
after_read (digital k r) m = put_channel k (digital_read r (channel_at m k)) m
after_read (common r) m = m
after_read (data_channel r) m = m
after_read unlisted m = m
