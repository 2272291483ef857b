-- Document 01, Setup image 2 and 3, and Questions 17: what power-up and reset restore of the kept values; the minute of the week
-- is unset, and all else is 0. Definitions only.
use Rattle.std.specs.Prelude.{true, false, map, pos, replicate}
use Rattle.counts.specs.declared.TimerCount.{TimerCount}
use Rattle.counts.specs.Counts.{timer}
use Rattle.model.specs.declared.Config.{Config}
use Rattle.model.specs.declared.Channel.{Channel}
use Rattle.model.specs.declared.Shared.{Shared}
use Rattle.model.specs.declared.ServiceBits.{ServiceBits}
use Rattle.model.specs.declared.DataChannel.{DataChannel}
use Rattle.model.specs.declared.Module.{Module}
use Rattle.model.specs.State.{flags_of, channel_with, no_bits, shared_of, service_bits, service_of, data_channel_with, timers_of, module_of}
use Rattle.model.specs.Hours.{unset_clock, no_windows}
use Rattle.model.specs.Lookup.{zero as realZero}
use Rattle.model.specs.Image.{Entry, DataKept, Setup, decode, image_size}

-- Change 2, 2: an operating count comes back without quarters. Change 6, 3: no windows
unfoldable pub restored : Entry → Channel
restored e =
    channel_with e.config (flags_of false false false false false) (timer (pos 0)) (timer (pos 0)) e.out_preset e.fb_preset
    (record { out = realZero; min = e.min; max = e.max }) (record { act = no_bits; his = no_bits })
    e.counter e.operating 0 e.user e.reals e.maintenance no_windows (record { counter = e.counter; operating = e.operating; user = e.user })

-- Change 6, 2: the minute is unset
abbrev pub restored_shared : Config → TimerCount → Shared
restored_shared g preset = shared_of (timer (pos 0)) g preset false 0 unset_clock

abbrev pub no_service_bits : ServiceBits
no_service_bits = service_bits false false false

-- His bit 7 after power-up, bit 6 after a reset
abbrev pub his_after_power_up : ServiceBits
his_after_power_up = service_bits true false false

abbrev pub his_after_reset : ServiceBits
his_after_reset = service_bits false true false

abbrev pub restored_data : DataKept → DataChannel
restored_data d = data_channel_with d.reals d.reals (timers_of (timer (pos 0)) (timer (pos 0))) d.table1 d.table2

-- the box that kept values give at power-up; WDTimer starts at WDPreset
unfoldable pub powered_up : Setup → Module
powered_up s =
    module_of (restored_shared s.module_config s.wd_preset) (service_of s.wd_preset no_service_bits his_after_power_up) (map restored s.entries)
    (restored_data s.data_kept)

-- Questions 17: the settings that a refused power-up takes
abbrev pub zero_setup : Setup
zero_setup = decode (replicate image_size 0)
