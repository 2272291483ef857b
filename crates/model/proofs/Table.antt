-- The proved table by computation: each call and each tick runs on the whole box, under every definition on its way. Assumes nothing.
use mathlib.Core.Path.{refl}
use lib.Ieee.{of_bits, to_bits, of_int, le}
use Rattle.integers.specs.Integers.{wrapped, larger}
use Rattle.integers.specs.Bytes.{bytes_of, number, signed_number}
use Rattle.counts.specs.Counts.{free_run_tick, watchdog_tick, out_timer_tick, feedback_tick, is_negative, is_positive}
use Rattle.numbers.specs.Reals.{real_from, real_bytes, whole, count_of, real_of}
use Rattle.numbers.specs.Written.{from, below}
use Rattle.model.specs.Hours.{clock_ticked, closed}
use Rattle.model.specs.Settings.{function_of, output}
use Rattle.model.specs.Channel.{changed, simulate, take_out, take_control, clear_acts, flag_reg_written}
use Rattle.model.specs.Registers.{place}
use Rattle.model.specs.Tick.{save_due, tick_shared, runs_out, tick_service, shut_down, off_while_closed, timers_run, one_shot, duty_cycle, overloaded, guarded, driven, look_due}
use Rattle.model.specs.Tick.{looked, operated, judged, saved, reviewed, ticked}
use Rattle.model.specs.Restored.{restored, powered_up}
use Rattle.model.specs.Writes.{digital_written, written}
use Rattle.model.specs.Reads.{digital_bytes, bytes_read, after_read}
use Rattle.model.specs.Questions.{read_reply, write_reply}
use Rattle.model.specs.Calls.{cleared, watchdog_preset, step, run}
use Rattle.model.specs.Table.{ProvedTable}

pub proved-table : ProvedTable
unfolding of_bits to_bits of_int le bytes_of number real_bytes real_of digital_bytes bytes_read after_read read_reply wrapped larger signed_number free_run_tick
    watchdog_tick out_timer_tick feedback_tick is_negative is_positive real_from whole count_of from below function_of output changed simulate take_out take_control
    clear_acts flag_reg_written place save_due tick_shared runs_out tick_service shut_down off_while_closed clock_ticked closed timers_run one_shot duty_cycle overloaded guarded driven look_due looked operated judged
    saved reviewed ticked restored powered_up digital_written written write_reply cleared watchdog_preset step run
proved-table =
    record {
      row1 = refl;
      row2 = refl;
      row3 = refl;
      row4 = refl;
      row5 = refl;
      row6 = refl;
      row7 = refl;
      row8_out = refl;
      row8_feedback = refl;
      row9_1 = refl;
      row9_2 = refl;
      row9_3 = refl;
      row10_1 = refl;
      row10_2 = refl;
      row10_3 = refl;
      row10_5 = refl;
      row11_1 = refl;
      row11_2 = refl;
    }
