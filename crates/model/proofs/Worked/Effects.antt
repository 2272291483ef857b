-- The worked boxes of specs/Worked/Effects.antt, by computation. Assumes nothing.
use mathlib.Core.Path.{refl}
use mathlib.Core.Bool.{xor}
use lib.Ieee.{of_bits, to_bits, of_int, le, lt}
use Rattle.integers.specs.Integers as Integers
use Rattle.integers.specs.Bytes as Bytes
use Rattle.counts.specs.Counts as Counts
use Rattle.numbers.specs.Reals as Reals
use Rattle.numbers.specs.Written as Written
use Rattle.model.specs.Calls as Calls
use Rattle.model.specs.Channel as Channel
use Rattle.model.specs.Errors as Errors
use Rattle.model.specs.Hours as Hours
use Rattle.model.specs.Image as Image
use Rattle.model.specs.Restored as Restored
use Rattle.model.specs.Questions as Questions
use Rattle.model.specs.Reads as Reads
use Rattle.model.specs.Registers as Registers
use Rattle.model.specs.Settings as Settings
use Rattle.model.specs.Tick as Tick
use Rattle.model.specs.Writes as Writes
use Rattle.model.specs.Worked.{played}
use Rattle.model.specs.Worked.Effects.{Effects}

pub worked-effects : Effects
unfolding played Calls.cleared Calls.watchdog_preset Calls.step Calls.run Calls.power_up Calls.power_up_answer Calls.stored Channel.acknowledged Channel.changed
    Channel.input_becomes Channel.take_level Channel.simulate Channel.tripped Channel.take_current Channel.take_sample Channel.take_out Channel.take_control
    Channel.clear_acts Channel.flag_reg_written Channel.out_flags_written Channel.ch_config_written Errors.error_byte Errors.any_bit Errors.service_byte Errors.any_service
    Errors.com_bytes Errors.common_error_bytes Errors.service_acknowledged Image.entry_bytes Image.entries_bytes Image.framed Image.summed Image.setup_from
    Image.version Image.split Image.contents Image.kept_bytes Image.kept_from Image.pairs_from Image.pairs_allowed Image.kept_allowed Image.counts_match
    Image.all_allowed Image.module_allowed Image.encode Image.entry_from Image.entries_from Image.decode Image.size_right Image.counts_right Image.sum_right
    Image.config_allowed Image.module_config_allowed Image.entry_allowed Image.entries_allowed Image.values_allowed Restored.restored Restored.powered_up
    Questions.read_reply Questions.write_reply Questions.sample_reply Questions.look_up_reply Questions.power_up_reply Questions.store_reply Reads.flag_reg
    Reads.service_bytes Reads.digital_bytes Reads.common_bytes Reads.pairs_bytes Reads.data_bytes Reads.bytes_read Reads.after_read Registers.place Settings.function_of
    Settings.reference_of Settings.in_a Settings.in_b_of Settings.output Tick.save_due Tick.tick_shared Tick.runs_out Tick.tick_service Tick.shut_down Tick.off_while_closed Hours.clock_ticked Hours.within Hours.closed Tick.timers_run
    Tick.one_shot Tick.duty_cycle Tick.timer_output Tick.overloaded Tick.guarded Tick.driven Tick.look_due Tick.feedback_wrong Tick.looked Tick.operated Tick.found
    Tick.judged Tick.saved Tick.reviewed Tick.data_timers_run Tick.data_ticked Tick.ticked Writes.shared_written Writes.errors_written Writes.every_written
    Writes.digital_written Writes.common_written Writes.data_reset Writes.data_written Writes.written Integers.modulo Integers.signed_bits Integers.wrapped
    Integers.larger Bytes.number Bytes.bytes_of Bytes.signed_number Bytes.signed_bytes Counts.free_run_tick Counts.watchdog_tick Counts.out_timer_tick
    Counts.feedback_tick Counts.operating_step Counts.operating_tick Counts.counter_step Counts.is_negative Counts.is_positive Reals.real_from Reals.real_bytes
    Reals.whole Reals.units_of Reals.count_of Reals.real_of Written.from Written.below Written.up_to of_bits to_bits of_int le lt Calls.store_answer xor
worked-effects =
    record {
      out_flags = refl;
      in_flags = refl;
      flag_reg_lem = refl;
      currents = refl;
      ch_config = refl;
      common_error = refl;
    }
