-- A tick in its two parts is the tick: what it begins with, and each channel by itself. A tick that does not look at the feedback needs no InFlags.
-- Assumes nothing.
use mathlib.Core.Path.{◌≡◌, refl, ap, ◌∙◌}
use mathlib.Core.Bool.{Bool, true, false, cond}
use mathlib.Core.List.{List, map}
use Prim.Native.Nat.{ℕ}
use lib.Dec.{ltb}
use lib.ListN.{length, length-map}
use Rattle.model.specs.declared.Channel.{Channel}
use Rattle.model.specs.declared.Module.{Module}
use Rattle.model.specs.declared.Shared.{Shared}
use Rattle.model.specs.State.{in_flag_of, set_fb_status, data_channel_of, module_of}
use Rattle.model.specs.Errors.{word_of}
use Rattle.model.specs.Tick.{driven, look_due, feedback_wrong, operated, looked, judged, save_due, saved, reviewed, data_ticked, ticked}
use Rattle.settings.specs.Levels.{levels_of}
use Rattle.settings.proofs.Laws.Levels.{levels-shown}
use Rattle.ticks.specs.Begun.{begun_of, ticked_by, data_ticked_by}

module _ (s : Shared) (ranOut due : Bool) where
  -- a channel's tick, which looks or does not
  abbrev by-look : Bool → List Bool → Channel → Channel
  by-look looks levels ch =
      let x = driven s ranOut ch in
      saved due (judged s (operated (cond looks (set_fb_status (feedback_wrong levels x) x) x)))

  where-due : (looks : Bool) (w : ℕ) (levels : List Bool) (cs : List Channel) → levels_of w ≡ levels
      → map (by-look looks (levels_of (cond looks w 0))) cs ≡ map (by-look looks levels) cs
  where-due true w levels cs e = ap (λ (l : List Bool). map (by-look true l) cs) e
  where-due false w levels cs e = refl

-- a tick that saves comes to channels in the end
saves : (due : Bool) → ltb 0 (cond due 16 0) ≡ due
saves true = refl
saves false = refl

pub data-whole : (m : Module) → data_ticked_by (begun_of m) (data_channel_of m) ≡ data_ticked (save_due m.shared) (data_channel_of m)
unfolding begun_of data_ticked_by
data-whole m = ap (λ (due : Bool). data_ticked due (data_channel_of m)) (saves (save_due m.shared))

pub whole : (m : Module) → length m.channels ≡ 16
    → record {
      shared = (begun_of m).shared;
      service = (begun_of m).service;
      channels = map (λ ch. saved (save_due m.shared) (ticked_by (begun_of m) ch)) m.channels;
      data_channel = data_ticked_by (begun_of m) (data_channel_of m);
    }
    ≡ ticked m
unfolding begun_of ticked_by ticked reviewed looked
whole m l =
    let b = begun_of m in
    let s = b.shared in
    let shown = levels-shown (map in_flag_of m.channels) (rw length-map l) in
    ap (module_of s b.service _) (data-whole m)
    ∙ ap (λ (cs : List Channel). module_of s b.service cs (data_ticked (save_due m.shared) (data_channel_of m)))
    (where-due s b.ran_out (save_due m.shared) (look_due s) (word_of (map in_flag_of m.channels)) (map in_flag_of m.channels) m.channels shown)
