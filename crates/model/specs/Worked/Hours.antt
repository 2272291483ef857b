-- Worked boxes: opening hours (document 02, Change 6). The proof is in proofs/Worked/Hours.antt.
use Rattle.std.specs.Prelude.{List, [], ◌∷◌, ◌++◌, ℕ, replicate}
use Rattle.model.specs.declared.Module.{Module}
use Rattle.model.specs.State.{with_clock, with_shared}
use Rattle.model.specs.Hours.{window}
use Rattle.model.specs.Calls.{minute, windows}
use Rattle.model.specs.Worked.{Case, one, two, four, past, ◌then◌, reads, writes, takes, refuses, ticks, Plays, box_of, entry, no_entry}

-- the watchdog off, every input simulated: an output 1, a one-shot 2, a duty cycle 3 and a timer 4, each with OutPreset 1000; an output 5 with FBPreset 256 and
-- the feedback input 6
abbrev pub hours_box : Module
hours_box =
    box_of 0x0010_0000 0
    (entry 0x0110_0000 0 1000 ∷ entry 0x0120_0000 0 1000 ∷ entry 0x0130_0000 0 1000 ∷ entry 0x0150_0000 0 1000 ∷ entry 0x0110_0600 256 0 ∷ replicate 11 no_entry)

-- with the minute n, so many ticks after it was set or moved
abbrev pub at_time : ℕ → ℕ → Module
at_time n t = with_shared (with_clock (record { minute = n; ticks = t }) hours_box.shared) hours_box

-- channel 1 is written on; and its FlagReg
abbrev pub on : List Case
on = writes 0x10 (one 0x80) past

abbrev pub shows : ℕ → List Case
shows flags = reads 0x10 (one flags) past

-- channel 1 after a tick with these windows, on before it, where the minute was just set to n
abbrev pub with_windows : ℕ → List ℕ → ℕ → List Case
with_windows n ws flags = takes (minute n) then takes (windows 1 ws) then on then ticks 1 then shows flags

-- a window that does not open at 5
abbrev pub shut : List ℕ
shut = window 7 8 ∷ []

pub record HoursBoxes : Type 0 where
  -- Change 6, 2 and 3: the 1920th tick is judged by the minute that it moved to: the start is in the window, and the end is not
  pub starts : Plays (at_time 9 1918) (takes (windows 1 (window 10 20 ∷ [])) then on then ticks 1 then shows 0x00 then on then ticks 1 then shows 0x80)
  pub ends : Plays (at_time 19 1918) (takes (windows 1 (window 10 20 ∷ [])) then on then ticks 1 then shows 0x80 then ticks 1 then shows 0x00)
  -- 2 and 3: over the week's end, which takes the minute from 10079 to 0; and to the week's end
  pub over : Plays (at_time 10079 1918) (takes (windows 1 (window 10079 1 ∷ [])) then on then ticks 1 then shows 0x80 then ticks 1 then shows 0x80)
  pub next_week : Plays (at_time 0 1918) (takes (windows 1 (window 10079 1 ∷ [])) then on then ticks 1 then shows 0x80 then ticks 1 then shows 0x00)
  pub to_the_end : Plays (at_time 10079 1918) (takes (windows 1 (window 10000 0 ∷ [])) then on then ticks 1 then shows 0x80 then ticks 1 then shows 0x00)
  -- 3: equal ends, no windows; the second of two; one that overlaps another, and eight of which the last opens; given whole
  pub several : Plays hours_box
      (with_windows 5 (window 5 5 ∷ []) 0x00 then with_windows 5 [] 0x80 then with_windows 5 (window 7 8 ∷ window 5 6 ∷ []) 0x80
      then with_windows 5 (window 0 9 ∷ window 4 5 ∷ []) 0x80 then with_windows 10079 (window 10079 10079 ∷ window 10078 10079 ∷ []) 0x00
      then with_windows 5 (window 5 6 ∷ replicate 7 (window 7 8)) 0x80 then with_windows 5 (replicate 7 (window 7 8) ++ (window 5 6 ∷ [])) 0x80
      then with_windows 5 (replicate 8 (window 7 8)) 0x00)
  -- 2: each setting starts the 1920 ticks anew, of the same minute too, and a refused one does not
  pub set_anew : Plays (at_time 9 1918) (takes (windows 1 (window 10 20 ∷ [])) then takes (minute 9) then ticks 1 then on then ticks 1 then shows 0x00)
  pub not_set : Plays (at_time 9 1918) (takes (windows 1 (window 9 10 ∷ [])) then refuses 18 (minute 10080) then on then ticks 1 then shows 0x80 then ticks 1 then shows 0x00)
  -- 4: a write between ticks switches a closed channel on until the next tick, by FlagReg and by OutFlags; opening turns nothing on
  pub between : Plays hours_box
      (takes (minute 5) then takes (windows 1 shut) then on then shows 0x80 then ticks 1 then shows 0x00 then writes 0x110 (two 0x0001) past then shows 0x80
      then ticks 1 then shows 0x00 then takes (windows 1 (window 5 6 ∷ [])) then ticks 1 then shows 0x00)
  -- 4: unset, windows close nothing
  pub unset : Plays hours_box (takes (windows 1 shut) then on then ticks 2 then shows 0x80 then takes (minute 5) then ticks 1 then shows 0x00)
  -- 4: the special function of a closed one-shot sees Control FALSE, so that OutTimer is not loaded; opened, the same write is an edge
  pub one_shot_lem : Plays hours_box
      (takes (minute 5) then takes (windows 2 shut) then writes 0x20 (one 0x08) past then ticks 1 then reads 0x20 (one 0x00) past
      then reads 0x21 (four 0xBD00_0000) past then takes (windows 2 []) then writes 0x20 (one 0x08) past then ticks 1 then reads 0x20 (one 0x88) past
      then reads 0x21 (four 0x407A_0000) past)
  -- 4: one that runs is off as its window closes, and OutTimer goes on; Control written again is an edge again
  pub running : Plays hours_box
      (writes 0x20 (one 0x08) past then ticks 1 then reads 0x20 (one 0x88) past then takes (minute 5) then takes (windows 2 shut) then ticks 1
      then reads 0x20 (one 0x00) past then reads 0x21 (four 0x4078_0000) past then takes (windows 2 []) then writes 0x20 (one 0x08) past then ticks 1
      then reads 0x20 (one 0x88) past then reads 0x21 (four 0x407A_0000) past)
  -- 4: a duty cycle and a timer output that are on are off with Control
  pub functions : Plays hours_box
      (writes 0x30 (one 0x08) past then writes 0x41 (four 0x4080_0000) past then writes 0x40 (one 0x08) past then ticks 1 then reads 0x30 (one 0x88) past
      then reads 0x40 (one 0x88) past then takes (minute 5) then takes (windows 3 shut) then takes (windows 4 shut) then ticks 1
      then reads 0x30 (one 0x00) past then reads 0x40 (one 0x00) past)
  -- 4 with A tick 3: the change rule against the tick's start; a look finds the feedback as it should be
  pub change_rule : Plays hours_box
      (writes 0x50 (one 0x80) past then ticks 2 then reads 0x56 (four 0x3F70_0000) past then takes (minute 5) then takes (windows 5 shut) then ticks 1
      then reads 0x50 (one 0x04) past then reads 0x56 (four 0x3F80_0000) past then ticks 1 then reads 0x50 (one 0x00) past then reads 0x56 (four 0x3F78_0000) past)
  -- 2 and 3: a reset unsets the minute and empties the windows
  pub reset_minute : Plays hours_box
      (takes (minute 5) then writes 0x03 (one 0xFF) past then takes (windows 1 shut) then on then ticks 1 then shows 0x80)
  pub reset_windows : Plays hours_box
      (takes (windows 1 shut) then writes 0x03 (one 0xFF) past then takes (minute 5) then on then ticks 1 then shows 0x80)
  -- 6 and 7: 18, and for windows 8, 19, 18; a refused call leaves the windows
  pub refused : Plays hours_box
      (takes (minute 5) then takes (windows 1 (window 5 6 ∷ [])) then refuses 18 (minute 10080) then refuses 18 (minute 65535)
      then refuses 19 (windows 1 (replicate 9 (window 7 8))) then refuses 19 (windows 1 (replicate 9 (window 10080 0)))
      then refuses 18 (windows 1 (window 7 8 ∷ window 10080 0 ∷ [])) then refuses 18 (windows 1 (window 0 10080 ∷ window 7 8 ∷ []))
      then refuses 8 (windows 0 []) then refuses 8 (windows 17 (replicate 9 (window 10080 0))) then on then ticks 1 then shows 0x80
      then takes (windows 1 shut) then ticks 1 then shows 0x00)
  -- 4: windows of one channel close no other
  pub apart : Plays hours_box (takes (minute 5) then takes (windows 2 shut) then takes (windows 16 shut) then on then ticks 1 then shows 0x80)
