-- The state's parts, by computation. Assumes nothing.
use mathlib.Core.Path.{refl}
use mathlib.Core.List.{List}
use lib.IntN.{ℤ}
use lib.Ieee.{Float}
use Rattle.counts.specs.declared.TimerCount.{TimerCount}
use Rattle.counts.specs.declared.OperatingCount.{OperatingCount}
use Rattle.model.specs.declared.Config.{Config}
use Rattle.model.specs.declared.Flags.{Flags}
use Rattle.model.specs.declared.Currents.{Currents}
use Rattle.model.specs.declared.Errors.{Errors}
use Rattle.model.specs.declared.Kept.{Kept}
use Rattle.model.specs.declared.Timetable.{Timetable}
use Rattle.model.specs.declared.LevelTable.{LevelTable}
use Rattle.model.specs.Parts.{ChannelParts, DataParts, Parts}
use Prim.Native.Nat.{ℕ}

channel-parts : (g : Config) (f : Flags) (ot ft op fp : TimerCount) (i : Currents) (e : Errors) (n : ℤ) (t : OperatingCount) (q : ℕ) (u r d : List ℕ) (w : Timetable) (k : Kept) →
    ChannelParts g f ot ft op fp i e n t q u r d w k
channel-parts g f ot ft op fp i e n t q u r d w k =
    record {
      configs = λ x. refl;
      all_flags = λ x. refl;
      out_timers = λ x. refl;
      fb_timers = λ x. refl;
      out_presets = λ x. refl;
      fb_presets = λ x. refl;
      all_currents = λ x. refl;
      all_errors = λ x. refl;
      counters = λ x. refl;
      operatings = λ x y. refl;
      users = λ x. refl;
      all_reals = λ x. refl;
      maintenances = λ x. refl;
      timetables = λ x. refl;
      all_kept = λ x. refl;
      counter_kept = λ kn kt ku. refl;
      operating_kept = λ kn kt ku. refl;
      user_kept = λ kn kt ku. refl;
      out_flags = λ x o i' c s m. refl;
      in_flags = λ x o i' c s m. refl;
      controls = λ x o i' c s m. refl;
      statuses = λ x o i' c s m. refl;
      states = λ x o i' c s m. refl;
      out_currents = λ x o l h. refl;
      min_currents = λ x o l h. refl;
      max_currents = λ x o l h. refl;
      timers = (refl, refl, refl, refl);
      time = (refl, refl);
      each_flag = λ o i' c s m. (refl, refl, refl, refl, refl);
    }

data-parts : (ra rb ka kb : Float) (ta tb : TimerCount) (l m : LevelTable) → DataParts ra rb ka kb ta tb l m
data-parts ra rb ka kb ta tb l m =
    record {
      reals_a = λ x. refl;
      reals_b = λ x. refl;
      timers_a = λ x. refl;
      timers_b = λ x. refl;
      look_ups_1 = λ x. refl;
      look_ups_2 = λ x. refl;
      a_kept = refl;
      b_kept = refl;
    }

pub parts : Parts
parts =
    record {
      channels = channel-parts;
      datas = data-parts;
      module_configs = λ r p g x w n k. refl;
      wd_presets = λ r p x g w n k. refl;
      write_enables = λ r p g w x n k. refl;
      clocks = λ r p g w n k x. refl;
      each_shared = λ r p g w n k. (refl, refl, refl, refl, refl, refl);
    }
