-- The answer and the buffer of a read. Assumes nothing.
use mathlib.Core.Path.{◌≡◌, ap, ◌∙◌}
use mathlib.Core.List.{List, map}
use Prim.Native.Nat.{ℕ, ◌/◌}
use lib.ListN.{length, get_or, length-map}
use Rattle.model.specs.declared.Channel.{Channel}
use Rattle.model.specs.declared.Service.{Service}
use Rattle.model.specs.declared.Module.{Module}
use Rattle.model.specs.Questions.{Reply}
use Rattle.model.specs.State.{in_flag_of, nothing}
use Rattle.model.specs.Registers.{Place, place}
use Rattle.model.specs.Questions.{read_reply}
use Rattle.model.specs.Calls.{read_leaves, read_fills}
use Rattle.settings.specs.Levels.{levels_of}
use Rattle.settings.proofs.Laws.Levels.{levels-shown}
use Rattle.errors.specs.declared.words.Words.{Words}
use Rattle.errors.specs.Words.{words_of}
use Rattle.registers.specs.Places.{slot_of}
use Rattle.reads.specs.Reading.{reading_of, buffer_of}

-- the levels that the word InFlags shows are those of the channels
pub shown-levels : (w : Words) (cs : List Channel) → length cs ≡ 16 → w ≡ words_of cs → levels_of w.in_flags ≡ map in_flag_of cs
shown-levels w cs n e = ap (λ (x : Words). levels_of x.in_flags) e ∙ levels-shown (map in_flag_of cs) (rw length-map n)

module _ (m : Module) (n : ℕ) (lent : List ℕ) (p : Place) (r : Reply) (e : p ≡ place n) (f : r ≡ read_reply n p lent) where
  pub answered : (v : Service) (ch : Channel) → v ≡ (read_leaves r p m).service → ch ≡ get_or (read_leaves r p m).channels (slot_of (n / 16)) nothing
      → record { reply = r; service = v; channel = ch } ≡ reading_of m n lent
  unfolding reading_of
  answered v ch g h = rw (g, h, f, e)

  pub buffered : (buffer : List ℕ) → buffer ≡ read_fills r p m lent → buffer ≡ buffer_of m n lent
  unfolding buffer_of
  buffered buffer g = rw (g, f, e)
