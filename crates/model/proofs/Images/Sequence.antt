-- The row of entries, from bytes and back, by induction on how many they are. Assumes nothing.
use mathlib.Core.Path.{◌≡◌, refl, sym, ap, ap₂, ◌∙◌}
use mathlib.Core.List.{List, [], ◌∷◌, ◌++◌, append_assoc}
use Prim.Native.Nat.{ℕ, zero, suc, ◌+◌, ◌*◌, ◌≤◌}
use native.Mathlib.Omega.{arith}
use lib.Dec.{T}
use lib.ListN.{length, take, drop, length-append, length-drop}
use lib.Pow.{are_bytes}
use lib.Seq.{take-add, take_at, drop_at}
use Rattle.model.specs.Image.{Entry, entry_bytes, entries_bytes, entry_from, entries_from, entry_allowed, entries_allowed}
use Rattle.model.proofs.Images.Tests.{both, join}
use Rattle.model.proofs.Images.Parts.{bytes-part, bytes_drop, part_length}
use Rattle.model.proofs.Images.Entries.{Held, entry-again, entry-held, entry-back, entry-allowed, entry_length}

-- every entry's values in their ranges
abbrev pub AllHeld : List Entry → Type 0
AllHeld [] = Unit {0}
AllHeld (e ∷ es) = Held e × AllHeld es

-- allowed bytes are the bytes of their entries
pub entries-again : (n : ℕ) (l : List ℕ) → 44 * n ≤ length l → T (are_bytes l) → T (entries_allowed n l) → entries_bytes (entries_from n l) ≡ take (44 * n) l
unfolding entries_bytes entries_from entries_allowed
entries-again zero l e t h = refl
entries-again (suc n) l e t h =
    let m : 44 * suc n ≡ 44 + 44 * n = omega arith in
    let a = both (entry_allowed (take 44 l)) (entries_allowed n (drop 44 l)) h in
    rw m
    (ap₂ ◌++◌ (entry-again (take 44 l) (part_length 0 44 l (omega arith)) (bytes-part 0 44 l t) a.0)
    (entries-again n (drop 44 l) (simp length-drop (omega arith)) (bytes_drop 44 l t) a.1)
    ∙ sym (take-add 44 (44 * n) l))

-- whose values are in their ranges
pub entries-held : (n : ℕ) (l : List ℕ) → 44 * n ≤ length l → T (are_bytes l) → T (entries_allowed n l) → AllHeld (entries_from n l)
unfolding entries_from entries_allowed
entries-held zero l e t h = tt
entries-held (suc n) l e t h =
    let a = both (entry_allowed (take 44 l)) (entries_allowed n (drop 44 l)) h in (
      entry-held (take 44 l) (part_length 0 44 l (omega arith)) (bytes-part 0 44 l t) a.0,
      entries-held n (drop 44 l) (simp length-drop (omega arith)) (bytes_drop 44 l t) a.1,
    )

-- and which are as many as asked for
pub entries-count : (n : ℕ) (l : List ℕ) → length (entries_from n l) ≡ n
unfolding entries_from
entries-count zero l = refl
entries-count (suc n) l = ap suc (entries-count n (drop 44 l))

-- 44 bytes an entry
pub entries-length : (es : List Entry) → AllHeld es → length (entries_bytes es) ≡ 44 * length es
unfolding entries_bytes
entries-length [] h = refl
entries-length (e ∷ es) h = length-append (entry_bytes e) (entries_bytes es) ∙ omega (arith, entry_length e h.0, entries-length es h.1)

-- the first entry's bytes, and what stands after them
module _ (e : Entry) (es : List Entry) (rest : List ℕ) (h : Held e) where
  row_first : take 44 ((entry_bytes e ++ entries_bytes es) ++ rest) ≡ entry_bytes e
  row_first = rw append_assoc (take_at (entry_bytes e) _ 44 (entry_length e h))

  row-rest : drop 44 ((entry_bytes e ++ entries_bytes es) ++ rest) ≡ entries_bytes es ++ rest
  row-rest = rw append_assoc (drop_at (entry_bytes e) _ 44 (entry_length e h))

-- entries come back from their bytes, whatever stands after them
pub entries-back : (es : List Entry) (rest : List ℕ) → AllHeld es → entries_from (length es) (entries_bytes es ++ rest) ≡ es
unfolding entries_bytes entries_from
entries-back [] rest h = refl
entries-back (e ∷ es) rest h =
    ap₂ (λ (x : Entry) (xs : List Entry). x ∷ xs)
    (ap entry_from (row_first e es rest h.0) ∙ entry-back e h.0)
    (ap (entries_from (length es)) (row-rest e es rest h.0) ∙ entries-back es rest h.1)

-- and are allowed there
pub entries-allowed : (es : List Entry) (rest : List ℕ) → AllHeld es → T (entries_allowed (length es) (entries_bytes es ++ rest))
unfolding entries_bytes entries_allowed
entries-allowed [] rest h = tt
entries-allowed (e ∷ es) rest h =
    rw (row_first e es rest h.0, row-rest e es rest h.0)
    (join (entry_allowed (entry_bytes e)) _ (entry-allowed e h.0) (entries-allowed es rest h.1))
