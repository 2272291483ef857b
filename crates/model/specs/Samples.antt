-- Document 02, Change 3, in words: an accepted sample does to its channel what its level does and then what its current does; InFlag and Counter are then the
-- level's and all else is the current's, and the other order leaves the same. A stranger's sample is struck as one call, and a sample is no wire call. A written
-- OutCurrent, a current alone, leaves InFlag and Counter. That a refused sample does neither is `Refusals.unchanged`. The proof is in proofs/Samples.antt.
use Rattle.std.specs.Prelude.{◌≡◌, Bool, true, false, List, ◌∷◌, ℕ, Float}
use Rattle.model.specs.declared.Channel.{Channel}
use Rattle.model.specs.declared.Module.{Module}
use Rattle.model.specs.declared.Shared.{Shared}
use Rattle.model.specs.declared.DigitalRegister.TheVariants.{OutCurrent}
use Rattle.model.specs.State.{channel_at, put_channel, in_flag_of, set_in_flag, with_counter}
use Rattle.model.specs.Channel.{take_level, take_current, take_sample}
use Rattle.model.specs.Writes.{digital_written}
use Rattle.model.specs.Calls.{Request, sample, step}
use Rattle.model.specs.TwoLists.{stranger, struck, marks}

pub record Samples : Type 0 where
  -- Change 3, 2: in any box
  pub accepted : (m : Module) (k : ℕ) (b : Bool) (x : Float) → (step m (sample k b x)).answer.number ≡ 0 →
      (step m (sample k b x)).box ≡ put_channel k (take_current m.shared x (take_level b (channel_at m k))) m
  -- InFlag and Counter as the level alone leaves them, in what the current alone leaves
  pub both : (s : Shared) (b : Bool) (x : Float) (ch : Channel) →
      take_sample s b x ch ≡ set_in_flag (in_flag_of (take_level b ch)) (with_counter (take_level b ch).counter (take_current s x ch))
  pub either_first : (s : Shared) (b : Bool) (x : Float) (ch : Channel) → take_sample s b x ch ≡ take_level b (take_current s x ch)
  -- Change 3, 4: the one call is struck, and one for any other number stays
  pub struck_as_one : (c : ℕ) (ns : List ℕ) (k : ℕ) (b : Bool) (x : Float) (xs : List Request) → stranger c ns k ≡ true →
      struck c ns (sample k b x ∷ xs) ≡ struck c ns xs
  pub stays : (c : ℕ) (ns : List ℕ) (k : ℕ) (b : Bool) (x : Float) (xs : List Request) → stranger c ns k ≡ false →
      struck c ns (sample k b x ∷ xs) ≡ sample k b x ∷ struck c ns xs
  -- Calls 7 and Two lists 5: it is no wire call since the tick before
  pub unmarked : (w : Bool) (k : ℕ) (b : Bool) (x : Float) (xs : List Request) → marks w (sample k b x ∷ xs) ≡ marks w xs
  -- Time and amperes 7
  pub written_in_flag : (s : Shared) (bs : List ℕ) (ch : Channel) → in_flag_of (digital_written OutCurrent s bs ch) ≡ in_flag_of ch
  pub written_counter : (s : Shared) (bs : List ℕ) (ch : Channel) → (digital_written OutCurrent s bs ch).counter ≡ ch.counter
