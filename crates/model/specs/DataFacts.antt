-- Facts that pin the data channel's rules (document 02, Change 1, 2, 12 and 13), and that no digital channel sees it. The proof is in proofs/DataFacts.antt.
use Rattle.std.specs.Prelude.{◌≡◌, true, false, List, ℕ, ◌+◌, ◌<◌, Float}
use Rattle.counts.specs.Counts.{out_timer_tick}
use Rattle.numbers.specs.Reals.{real_from}
use Rattle.model.specs.declared.DataChannel.{DataChannel}
use Rattle.model.specs.declared.Shared.{Shared}
use Rattle.model.specs.declared.Module.{Module}
use Rattle.model.specs.declared.DataRegister.{DataRegister}
use Rattle.model.specs.declared.DataRegister.TheVariants.{RealA, RealB, TimerA, TimerB}
use Rattle.model.specs.declared.DigitalRegister.TheVariants.{OutTimer}
use Rattle.model.specs.State.{data_channel_of, reals_of, write_enable_of, with_data}
use Rattle.model.specs.Registers.{data_channel, unlisted, data_row, place}
use Rattle.model.specs.Tick.{save_due, ticked}
use Rattle.model.specs.Writes.{digital_allowed, data_allowed, data_written}
use Rattle.model.specs.Calls.{read, write, look_up, step}
use Rattle.model.specs.TwoLists.{is_for, owner_of, stranger}

pub record DataFacts : Type 0 where
  -- each register is found at its own number, and none at $12x
  pub found : (r : DataRegister) → place (0x130 + (data_row r).number) ≡ data_channel r
  pub none_at_12 : (n : ℕ) → n < 0x10 → place (0x120 + n) ≡ unlisted
  -- RealA is kept by the save, RealB is not
  pub saved : (m : Module) → save_due m.shared ≡ true → (data_channel_of (ticked m)).kept.a ≡ (data_channel_of m).reals.a
  pub unsaved : (m : Module) → save_due m.shared ≡ false → (data_channel_of (ticked m)).kept.a ≡ (data_channel_of m).kept.a
  pub not_saved : (m : Module) → (data_channel_of (ticked m)).kept.b ≡ (data_channel_of m).kept.b
  -- a tick leaves the Reals and the tables
  pub same_reals : (m : Module) → (data_channel_of (ticked m)).reals ≡ (data_channel_of m).reals
  pub same_table1 : (m : Module) → (data_channel_of (ticked m)).table1 ≡ (data_channel_of m).table1
  pub same_table2 : (m : Module) → (data_channel_of (ticked m)).table2 ≡ (data_channel_of m).table2
  -- TimerA and TimerB take what OutTimer does, and run as it does
  pub first_allowed : (bs : List ℕ) → data_allowed TimerA bs ≡ digital_allowed OutTimer bs
  pub second_allowed : (bs : List ℕ) → data_allowed TimerB bs ≡ digital_allowed OutTimer bs
  pub first_timer : (m : Module) → (data_channel_of (ticked m)).timers.a ≡ out_timer_tick (data_channel_of m).timers.a
  pub second_timer : (m : Module) → (data_channel_of (ticked m)).timers.b ≡ out_timer_tick (data_channel_of m).timers.b
  -- a written Real is taken, and kept while WriteEnable is TRUE
  pub a_taken : (s : Shared) (bs : List ℕ) (d : DataChannel) → (data_written RealA s bs d).reals.a ≡ real_from bs
  pub a_kept : (s : Shared) (bs : List ℕ) (d : DataChannel) → write_enable_of s ≡ true → (data_written RealA s bs d).kept ≡ reals_of (real_from bs) d.kept.b
  pub a_not_kept : (s : Shared) (bs : List ℕ) (d : DataChannel) → write_enable_of s ≡ false → (data_written RealA s bs d).kept ≡ d.kept
  pub b_taken : (s : Shared) (bs : List ℕ) (d : DataChannel) → (data_written RealB s bs d).reals.b ≡ real_from bs
  pub b_kept : (s : Shared) (bs : List ℕ) (d : DataChannel) → write_enable_of s ≡ true → (data_written RealB s bs d).kept ≡ reals_of d.kept.a (real_from bs)
  pub b_not_kept : (s : Shared) (bs : List ℕ) (d : DataChannel) → write_enable_of s ≡ false → (data_written RealB s bs d).kept ≡ d.kept
  -- other data, same channels after a tick
  pub unseen : (m : Module) (d : DataChannel) → (ticked (with_data d m)).channels ≡ (ticked m).channels
  -- a wire call of $13 and a lookup are for no stranger; a lookup changes nothing
  pub reads_kept : (c : ℕ) (ns : List ℕ) (n : ℕ) → n < 0x10 → (lent : List ℕ) → is_for (stranger c ns) (owner_of (read (0x130 + n) lent)) ≡ false
  pub writes_kept : (c : ℕ) (ns : List ℕ) (n : ℕ) → n < 0x10 → (bs : List ℕ) → is_for (stranger c ns) (owner_of (write (0x130 + n) bs)) ≡ false
  pub look_ups_kept : (c : ℕ) (ns : List ℕ) (k : ℕ) (x : Float) → is_for (stranger c ns) (owner_of (look_up k x)) ≡ false
  pub unchanged : (m : Module) (k : ℕ) (x : Float) → (step m (look_up k x)).box ≡ m
