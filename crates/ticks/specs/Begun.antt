-- A tick in two parts: what it has worked out when it comes to the channels, and what that makes of each of them and of the data channel. Definitions only.
use Rattle.std.specs.Prelude.{cond, map, ltb}
use Rattle.model.specs.declared.Channel.{Channel}
use Rattle.model.specs.declared.DataChannel.{DataChannel}
use Rattle.model.specs.declared.Module.{Module}
use Rattle.model.specs.State.{in_flag_of, wd_timer_of}
use Rattle.model.specs.Errors.{word_of}
use Rattle.model.specs.Tick.{save_due, tick_shared, runs_out, tick_service, driven, look_due, looked, operated, judged, data_ticked}
use Rattle.settings.specs.Levels.{levels_of}
use Rattle.ticks.specs.declared.Begun.{Begun}

-- the records after step 1, and the rest by the box as the tick found it: all channels are saved or none; the InFlags where the tick looks at the feedback
unfoldable pub begun_of : Module → Begun
begun_of m =
    let s = tick_shared m.shared in
    let ranOut = runs_out m.shared (wd_timer_of m.service) in
    record {
      shared = s;
      service = tick_service ranOut m.service;
      count = cond (save_due m.shared) 16 0;
      ran_out = ranOut;
      levels = cond (look_due s) (word_of (map in_flag_of m.channels)) 0;
    }

-- one channel: off where the watchdog ran out, then steps 2 to 6
unfoldable pub ticked_by : Begun → Channel → Channel
ticked_by b ch = judged b.shared (operated (looked b.shared (levels_of b.levels) (driven b.shared b.ran_out ch)))

-- the data channel: a tick that saves channels keeps RealA
unfoldable pub data_ticked_by : Begun → DataChannel → DataChannel
data_ticked_by b d = data_ticked (ltb 0 b.count) d
