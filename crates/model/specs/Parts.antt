-- The state's parts: each is read where it was put, and putting one leaves every other, for all values. The proof is in proofs/Parts.antt.
use Rattle.std.specs.Prelude.{◌≡◌, Bool, List, ℕ, ℤ, Float}
use Rattle.counts.specs.declared.TimerCount.{TimerCount}
use Rattle.counts.specs.declared.OperatingCount.{OperatingCount}
use Rattle.model.specs.declared.Config.{Config}
use Rattle.model.specs.declared.Flags.{Flags}
use Rattle.model.specs.declared.Currents.{Currents}
use Rattle.model.specs.declared.Errors.{Errors}
use Rattle.model.specs.declared.Kept.{Kept}
use Rattle.model.specs.declared.Timetable.{Timetable}
use Rattle.model.specs.declared.Channel.{Channel}
use Rattle.model.specs.declared.Clock.{Clock}
use Rattle.model.specs.declared.Shared.{Shared}
use Rattle.model.specs.declared.LevelTable.{LevelTable}
use Rattle.model.specs.declared.DataChannel.{DataChannel}
use Rattle.model.specs.State.{with_config, with_flags, set_out_timer, set_fb_timer, set_out_preset, set_fb_preset, with_currents, with_errors, with_counter}
use Rattle.model.specs.State.{operating_time, with_operating, with_user, with_reals, with_maintenance, with_timetable, with_kept, out_timer_of, fb_timer_of, out_preset_of, fb_preset_of}
use Rattle.model.specs.State.{out_flag_of, in_flag_of, control, fb_status_of, internal_state_of, set_out_flag, set_in_flag, set_control, set_fb_status, set_internal_state}
use Rattle.model.specs.State.{set_out_current, set_min_current, set_max_current, free_run_timer_of, module_config_of, wd_preset_of, write_enable_of, save_ticks_of, with_clock}
use Rattle.model.specs.State.{set_real_a, set_real_b, set_timer_a, set_timer_b, set_look_up1, set_look_up2, keep_real_a, keep_real_b}
use Rattle.model.specs.Channel.{keep_counter, keep_operating, keep_user}
use Rattle.model.specs.Writes.{set_module_config, set_wd_preset, set_write_enable}

-- a channel by its sixteen parts, and those of them that have parts
abbrev pub channel : Config → Flags → TimerCount → TimerCount → TimerCount → TimerCount → Currents → Errors → ℤ → OperatingCount → ℕ →
    List ℕ → List ℕ → List ℕ → Timetable → Kept → Channel
channel g f ot ft op fp i e n t q u r d w k =
    record {
      config = g;
      flags = f;
      out_timer = ot;
      fb_timer = ft;
      out_preset = op;
      fb_preset = fp;
      currents = i;
      errors = e;
      counter = n;
      operating = t;
      quarters = q;
      user = u;
      reals = r;
      maintenance = d;
      timetable = w;
      kept = k;
    }

abbrev pub flags : Bool → Bool → Bool → Bool → Bool → Flags
flags o i c s n = record { out_flag = o; in_flag = i; control = c; fb_status = s; internal_state = n }

abbrev pub currents : Float → Float → Float → Currents
currents o l h = record { out = o; min = l; max = h }

abbrev pub kept_of : ℤ → OperatingCount → List ℕ → Kept
kept_of n t u = record { counter = n; operating = t; user = u }

abbrev pub shared : TimerCount → Config → TimerCount → Bool → ℕ → Clock → Shared
shared r g p w n k = record { free_run_timer = r; module_config = g; wd_preset = p; write_enable = w; save_ticks = n; clock = k }

-- a part of a channel put anew
pub record ChannelParts (g : Config) (f : Flags) (ot ft op fp : TimerCount) (i : Currents) (e : Errors) (n : ℤ) (t : OperatingCount) (q : ℕ) (u r d : List ℕ) (w : Timetable) (k : Kept)
    : Type 0 where
  pub configs : (x : Config) → with_config x (channel g f ot ft op fp i e n t q u r d w k) ≡ channel x f ot ft op fp i e n t q u r d w k
  pub all_flags : (x : Flags) → with_flags x (channel g f ot ft op fp i e n t q u r d w k) ≡ channel g x ot ft op fp i e n t q u r d w k
  pub out_timers : (x : TimerCount) → set_out_timer x (channel g f ot ft op fp i e n t q u r d w k) ≡ channel g f x ft op fp i e n t q u r d w k
  pub fb_timers : (x : TimerCount) → set_fb_timer x (channel g f ot ft op fp i e n t q u r d w k) ≡ channel g f ot x op fp i e n t q u r d w k
  pub out_presets : (x : TimerCount) → set_out_preset x (channel g f ot ft op fp i e n t q u r d w k) ≡ channel g f ot ft x fp i e n t q u r d w k
  pub fb_presets : (x : TimerCount) → set_fb_preset x (channel g f ot ft op fp i e n t q u r d w k) ≡ channel g f ot ft op x i e n t q u r d w k
  pub all_currents : (x : Currents) → with_currents x (channel g f ot ft op fp i e n t q u r d w k) ≡ channel g f ot ft op fp x e n t q u r d w k
  pub all_errors : (x : Errors) → with_errors x (channel g f ot ft op fp i e n t q u r d w k) ≡ channel g f ot ft op fp i x n t q u r d w k
  pub counters : (x : ℤ) → with_counter x (channel g f ot ft op fp i e n t q u r d w k) ≡ channel g f ot ft op fp i e x t q u r d w k
  pub operatings : (x : OperatingCount) (y : ℕ) →
      with_operating (record { count = x; quarters = y }) (channel g f ot ft op fp i e n t q u r d w k) ≡ channel g f ot ft op fp i e n x y u r d w k
  pub users : (x : List ℕ) → with_user x (channel g f ot ft op fp i e n t q u r d w k) ≡ channel g f ot ft op fp i e n t q x r d w k
  pub all_reals : (x : List ℕ) → with_reals x (channel g f ot ft op fp i e n t q u r d w k) ≡ channel g f ot ft op fp i e n t q u x d w k
  pub maintenances : (x : List ℕ) → with_maintenance x (channel g f ot ft op fp i e n t q u r d w k) ≡ channel g f ot ft op fp i e n t q u r x w k
  pub timetables : (x : Timetable) → with_timetable x (channel g f ot ft op fp i e n t q u r d w k) ≡ channel g f ot ft op fp i e n t q u r d x k
  pub all_kept : (x : Kept) → with_kept x (channel g f ot ft op fp i e n t q u r d w k) ≡ channel g f ot ft op fp i e n t q u r d w x
  -- A channel 17: what is kept of registers 2, 4 and 5, and nothing else
  pub counter_kept : (kn : ℤ) (kt : OperatingCount) (ku : List ℕ) →
      keep_counter (channel g f ot ft op fp i e n t q u r d w (kept_of kn kt ku)) ≡ channel g f ot ft op fp i e n t q u r d w (kept_of n kt ku)
  pub operating_kept : (kn : ℤ) (kt : OperatingCount) (ku : List ℕ) →
      keep_operating (channel g f ot ft op fp i e n t q u r d w (kept_of kn kt ku)) ≡ channel g f ot ft op fp i e n t q u r d w (kept_of kn t ku)
  pub user_kept : (kn : ℤ) (kt : OperatingCount) (ku : List ℕ) →
      keep_user (channel g f ot ft op fp i e n t q u r d w (kept_of kn kt ku)) ≡ channel g f ot ft op fp i e n t q u r d w (kept_of kn kt u)
  -- a flag, a current
  pub out_flags : (x o i' c s m : Bool) →
      set_out_flag x (channel g (flags o i' c s m) ot ft op fp i e n t q u r d w k) ≡ channel g (flags x i' c s m) ot ft op fp i e n t q u r d w k
  pub in_flags : (x o i' c s m : Bool) →
      set_in_flag x (channel g (flags o i' c s m) ot ft op fp i e n t q u r d w k) ≡ channel g (flags o x c s m) ot ft op fp i e n t q u r d w k
  pub controls : (x o i' c s m : Bool) →
      set_control x (channel g (flags o i' c s m) ot ft op fp i e n t q u r d w k) ≡ channel g (flags o i' x s m) ot ft op fp i e n t q u r d w k
  pub statuses : (x o i' c s m : Bool) →
      set_fb_status x (channel g (flags o i' c s m) ot ft op fp i e n t q u r d w k) ≡ channel g (flags o i' c x m) ot ft op fp i e n t q u r d w k
  pub states : (x o i' c s m : Bool) →
      set_internal_state x (channel g (flags o i' c s m) ot ft op fp i e n t q u r d w k) ≡ channel g (flags o i' c s x) ot ft op fp i e n t q u r d w k
  pub out_currents : (x o l h : Float) →
      set_out_current x (channel g f ot ft op fp (currents o l h) e n t q u r d w k) ≡ channel g f ot ft op fp (currents x l h) e n t q u r d w k
  pub min_currents : (x o l h : Float) →
      set_min_current x (channel g f ot ft op fp (currents o l h) e n t q u r d w k) ≡ channel g f ot ft op fp (currents o x h) e n t q u r d w k
  pub max_currents : (x o l h : Float) →
      set_max_current x (channel g f ot ft op fp (currents o l h) e n t q u r d w k) ≡ channel g f ot ft op fp (currents o l x) e n t q u r d w k
  -- what is read of them
  pub timers : let ch = channel g f ot ft op fp i e n t q u r d w k in
      (out_timer_of ch ≡ ot) × (fb_timer_of ch ≡ ft) × (out_preset_of ch ≡ op) × (fb_preset_of ch ≡ fp)
  pub time : let ch = channel g f ot ft op fp i e n t q u r d w k in ((operating_time ch).count ≡ t) × ((operating_time ch).quarters ≡ q)
  pub each_flag : (o i' c s m : Bool) → let ch = channel g (flags o i' c s m) ot ft op fp i e n t q u r d w k in
      (out_flag_of ch ≡ o) × (in_flag_of ch ≡ i') × (control ch ≡ c) × (fb_status_of ch ≡ s) × (internal_state_of ch ≡ m)

-- the data channel by its parts
abbrev pub data_with : Float → Float → Float → Float → TimerCount → TimerCount → LevelTable → LevelTable → DataChannel
data_with ra rb ka kb ta tb l m =
    record { reals = record { a = ra; b = rb }; kept = record { a = ka; b = kb }; timers = record { a = ta; b = tb }; table1 = l; table2 = m }

pub record DataParts (ra rb ka kb : Float) (ta tb : TimerCount) (l m : LevelTable) : Type 0 where
  pub reals_a : (x : Float) → set_real_a x (data_with ra rb ka kb ta tb l m) ≡ data_with x rb ka kb ta tb l m
  pub reals_b : (x : Float) → set_real_b x (data_with ra rb ka kb ta tb l m) ≡ data_with ra x ka kb ta tb l m
  pub timers_a : (x : TimerCount) → set_timer_a x (data_with ra rb ka kb ta tb l m) ≡ data_with ra rb ka kb x tb l m
  pub timers_b : (x : TimerCount) → set_timer_b x (data_with ra rb ka kb ta tb l m) ≡ data_with ra rb ka kb ta x l m
  pub look_ups_1 : (x : LevelTable) → set_look_up1 x (data_with ra rb ka kb ta tb l m) ≡ data_with ra rb ka kb ta tb x m
  pub look_ups_2 : (x : LevelTable) → set_look_up2 x (data_with ra rb ka kb ta tb l m) ≡ data_with ra rb ka kb ta tb l x
  -- Change 1, 2: what is kept of RealA and of RealB, and nothing else
  pub a_kept : keep_real_a (data_with ra rb ka kb ta tb l m) ≡ data_with ra rb ra kb ta tb l m
  pub b_kept : keep_real_b (data_with ra rb ka kb ta tb l m) ≡ data_with ra rb ka rb ta tb l m

pub record Parts : Type 0 where
  pub channels : (g : Config) (f : Flags) (ot ft op fp : TimerCount) (i : Currents) (e : Errors) (n : ℤ) (t : OperatingCount) (q : ℕ) (u r d : List ℕ) (w : Timetable) (k : Kept) →
      ChannelParts g f ot ft op fp i e n t q u r d w k
  pub datas : (ra rb ka kb : Float) (ta tb : TimerCount) (l m : LevelTable) → DataParts ra rb ka kb ta tb l m
  -- of the shared record
  pub module_configs : (r p : TimerCount) (g x : Config) (w : Bool) (n : ℕ) (k : Clock) → set_module_config x (shared r g p w n k) ≡ shared r x p w n k
  pub wd_presets : (r p x : TimerCount) (g : Config) (w : Bool) (n : ℕ) (k : Clock) → set_wd_preset x (shared r g p w n k) ≡ shared r g x w n k
  pub write_enables : (r p : TimerCount) (g : Config) (w x : Bool) (n : ℕ) (k : Clock) → set_write_enable x (shared r g p w n k) ≡ shared r g p x n k
  pub clocks : (r p : TimerCount) (g : Config) (w : Bool) (n : ℕ) (k x : Clock) → with_clock x (shared r g p w n k) ≡ shared r g p w n x
  pub each_shared : (r p : TimerCount) (g : Config) (w : Bool) (n : ℕ) (k : Clock) → let s = shared r g p w n k in
      (free_run_timer_of s ≡ r) × (module_config_of s ≡ g) × (wd_preset_of s ≡ p) × (write_enable_of s ≡ w) × (save_ticks_of s ≡ n) × (s.clock ≡ k)
