-- What a reader may rely on in a level table (document 02, Change 1, 4 to 8): at or below X1 it answers Y1, above X10 Y10, and at an entry of a table that
-- rises exactly the entry's Y. For any table, the first pair that X is not above decides. The proof is in proofs/Levels.antt.
use Rattle.std.specs.Prelude.{◌≡◌, true, false, List, [], ◌∷◌, ℕ, ◌+◌, ◌<◌, ◌≤◌, T, length, Float}
use Rattle.std.specs.Float.{nan, binary32}
use Rattle.std.specs.Float.Ieee.{to_bits, lt, le, eq}
use Rattle.std.specs.Float.Ieee.Scale.{finite}
use Rattle.model.specs.declared.Pair.{Pair}
use Rattle.model.specs.declared.LevelTable.{LevelTable}
use Rattle.model.specs.Lookup.{acts, pair_at, on_line, looked_up}

-- Change 1, 8: each X is above the one before
abbrev pub Rising : List Pair → Type 0
Rising [] = Unit {0}
Rising (p ∷ []) = Unit {0}
Rising (p ∷ (q ∷ ps)) = (lt p.x q.x ≡ true) × Rising (q ∷ ps)

pub record Levels : Type 0 where
  pub at_or_below : (t : LevelTable) (x : Float) → le x (pair_at (acts t) 1).x ≡ true → looked_up (acts t) x ≡ (pair_at (acts t) 1).y
  pub above : (t : LevelTable) (x : Float) → le x (pair_at (acts t) 1).x ≡ false → lt (pair_at (acts t) 10).x x ≡ true →
      looked_up (acts t) x ≡ (pair_at (acts t) 10).y
  -- any table: pair k + 1 is the first that X is not above
  pub between : (t : LevelTable) → length t.pairs ≡ 10 → (x : Float) (k : ℕ) → 1 ≤ k → k < 10 →
      le x (pair_at (acts t) 1).x ≡ false → lt (pair_at (acts t) 10).x x ≡ false →
      ((j : ℕ) → 1 ≤ j → j < k → lt (pair_at (acts t) (j + 1)).x x ≡ true) → lt (pair_at (acts t) (k + 1)).x x ≡ false →
      looked_up (acts t) x ≡ on_line (pair_at (acts t) k) (pair_at (acts t) (k + 1)) x
  -- a table that rises: the answer at an entry, −0 being 0
  pub entries : (t : LevelTable) → length t.pairs ≡ 10 → Rising (acts t) → (x : Float) → T (finite x) → (k : ℕ) → k < 10 →
      eq x (pair_at (acts t) (k + 1)).x ≡ true → looked_up (acts t) x ≡ (pair_at (acts t) (k + 1)).y
  -- 7: the bits of a NaN
  pub one_nan : to_bits binary32 nan ≡ 0x7FC0_0000
