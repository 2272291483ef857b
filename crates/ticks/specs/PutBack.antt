-- The parts of a channel that steps 2 to 6 of a tick can change, put back into the channel that it began with. Definitions only.
use Rattle.model.specs.declared.Channel.{Channel}
use Rattle.model.specs.State.{channel_with, out_timer_of, fb_timer_of, out_preset_of, fb_preset_of}

-- from `after`: the flags, OutTimer, FBTimer, the errors, the operating time; from `ch`: all else
unfoldable pub put_back : Channel → Channel → Channel
put_back after ch =
    channel_with ch.config after.flags (out_timer_of after) (fb_timer_of after) (out_preset_of ch) (fb_preset_of ch)
    ch.currents after.errors ch.counter after.operating after.quarters
    ch.user ch.reals ch.maintenance ch.timetable ch.kept
