-- The data channel's section, from 168 bytes and back: 42 Reals in a row. Assumes nothing.
use mathlib.Core.Path.{◌≡◌, refl, sym, ap, ap₂, ◌∙◌}
use mathlib.Core.Bool.{not}
use mathlib.Core.List.{List, [], ◌∷◌, ◌++◌, append_assoc}
use Prim.Native.Nat.{ℕ, zero, suc, ◌+◌, ◌*◌, ◌≤◌}
use native.Mathlib.Omega.{arith}
use lib.Dec.{T}
use lib.ListN.{length, take, drop, length-append, length-drop}
use lib.Pow.{are_bytes}
use lib.Seq.{take-add, take_at, drop_at, drop-drop, take_all}
use lib.Ieee.{Float, nan, inf, fin, binary32, fits, is_nan, to_bits}
use lib.Ieee.Scale.{finite}
use Rattle.integers.proofs.Laws.Bytes.{length-bytes}
use Rattle.numbers.specs.Reals.{real_from, real_bytes}
use Rattle.numbers.proofs.Claims as Reals
use Rattle.model.specs.declared.Pair.{Pair}
use Rattle.model.specs.declared.LevelTable.{LevelTable}
use Rattle.model.specs.Reads.{pairs_bytes}
use Rattle.model.specs.Image.{DataKept, kept_bytes, part, pairs_from, table_from, kept_from, real_allowed, pairs_allowed, kept_allowed}
use Rattle.model.proofs.Images.Tests.{both, join}
use Rattle.model.proofs.Images.Parts.{bytes-part, bytes_drop, part_length, part-more, beside}

-- ---- a finite Real of 32 bits
pub record Level (x : Float) : Type 0 where
  pub real : T (fits binary32 x)
  pub allowed : T (finite x)

no_nan : (x : Float) → T (finite x) → T (not (is_nan x))
unfolding is_nan
no_nan nan t = t
no_nan (inf s) t = tt
no_nan (fin s m e) t = tt

pub level-from : (bs : List ℕ) → T (real_allowed bs) → Level (real_from bs)
level-from bs t = record { real = (Reals.writes-held).wire bs; allowed = t }

pub level-again : (bs : List ℕ) → length bs ≡ 4 → T (are_bytes bs) → T (real_allowed bs) → real_bytes (real_from bs) ≡ bs
level-again bs e t a = (Reals.come-back).bytes bs e t (no_nan (real_from bs) a)

pub level-back : (x : Float) → Level x → real_from (real_bytes x) ≡ x
level-back x h = (Reals.come-back).reals x h.real

level-fine : (x : Float) → Level x → T (real_allowed (real_bytes x))
level-fine x h = rw (level-back x h) h.allowed

pub real-length : (x : Float) → length (real_bytes x) ≡ 4
unfolding real_bytes
real-length x = length-bytes 4 (to_bits binary32 x)

-- ---- pairs
abbrev pub PairsHeld : List Pair → Type 0
PairsHeld [] = Unit {0}
PairsHeld (p ∷ ps) = (Level p.x × Level p.y) × PairsHeld ps

pub pairs-again : (n : ℕ) (l : List ℕ) → 8 * n ≤ length l → T (are_bytes l) → T (pairs_allowed n l) → pairs_bytes (pairs_from n l) ≡ take (8 * n) l
unfolding pairs_bytes pairs_from pairs_allowed
pairs-again zero l e t h = refl
pairs-again (suc n) l e t h =
    let m : 8 * suc n ≡ 8 + 8 * n = omega arith in
    let a = both (real_allowed (part 0 4 l)) _ h in
    let b = both (real_allowed (part 4 4 l)) (pairs_allowed n (drop 8 l)) a.1 in
    let x = level-again (part 0 4 l) (part_length 0 4 l (omega arith)) (bytes-part 0 4 l t) a.0 in
    let y = level-again (part 4 4 l) (part_length 4 4 l (omega arith)) (bytes-part 4 4 l t) b.0 in
    rw m
    (beside (beside x y ∙ part-more 0 4 4 l) (pairs-again n (drop 8 l) (simp length-drop (omega arith)) (bytes_drop 8 l t) b.1)
    ∙ sym (take-add 8 (8 * n) l))

pub pairs-held : (n : ℕ) (l : List ℕ) → T (pairs_allowed n l) → PairsHeld (pairs_from n l)
unfolding pairs_from pairs_allowed
pairs-held zero l h = tt
pairs-held (suc n) l h =
    let a = both (real_allowed (part 0 4 l)) _ h in
    let b = both (real_allowed (part 4 4 l)) (pairs_allowed n (drop 8 l)) a.1 in
    ((level-from (part 0 4 l) a.0, level-from (part 4 4 l) b.0), pairs-held n (drop 8 l) b.1)

pub pairs-count : (n : ℕ) (l : List ℕ) → length (pairs_from n l) ≡ n
unfolding pairs_from
pairs-count zero l = refl
pairs-count (suc n) l = ap suc (pairs-count n (drop 8 l))

pub pairs-length : (ps : List Pair) → length (pairs_bytes ps) ≡ 8 * length ps
unfolding pairs_bytes
pairs-length [] = refl
pairs-length (p ∷ ps) = simp length-append (omega (arith, real-length p.x, real-length p.y, pairs-length ps))

module _ (p : Pair) (ps : List Pair) where
  first-x : part 0 4 (pairs_bytes (p ∷ ps)) ≡ real_bytes p.x
  unfolding pairs_bytes
  first-x = rw (append_assoc (real_bytes p.x) (real_bytes p.y) (pairs_bytes ps)) (take_at (real_bytes p.x) _ 4 (real-length p.x))

  first-y : part 4 4 (pairs_bytes (p ∷ ps)) ≡ real_bytes p.y
  unfolding pairs_bytes
  first-y =
      rw (
        append_assoc (real_bytes p.x) (real_bytes p.y) (pairs_bytes ps),
        drop_at (real_bytes p.x) (real_bytes p.y ++ pairs_bytes ps) 4
            (real-length p.x),
      )
      (take_at (real_bytes p.y) _ 4 (real-length p.y))

  others : drop 8 (pairs_bytes (p ∷ ps)) ≡ pairs_bytes ps
  unfolding pairs_bytes
  others = drop_at (real_bytes p.x ++ real_bytes p.y) (pairs_bytes ps) 8 (simp length-append (omega (arith, real-length p.x, real-length p.y)))

pub pairs-back : (ps : List Pair) → PairsHeld ps → pairs_from (length ps) (pairs_bytes ps) ≡ ps
unfolding pairs_from
pairs-back [] h = refl
pairs-back (p ∷ ps) h =
    ap₂ (λ (x : Pair) (xs : List Pair). x ∷ xs)
    (λ i. record { x = (ap real_from (first-x p ps) ∙ level-back p.x h.0.0) i; y = (ap real_from (first-y p ps) ∙ level-back p.y h.0.1) i })
    (ap (pairs_from (length ps)) (others p ps) ∙ pairs-back ps h.1)

pub pairs-fine : (ps : List Pair) → PairsHeld ps → T (pairs_allowed (length ps) (pairs_bytes ps))
unfolding pairs_allowed
pairs-fine [] h = tt
pairs-fine (p ∷ ps) h =
    rw (first-x p ps, first-y p ps, others p ps)
    (join (real_allowed (real_bytes p.x)) _ (level-fine p.x h.0.0)
    (join (real_allowed (real_bytes p.y)) _ (level-fine p.y h.0.1) (pairs-fine ps h.1)))

-- ---- the section
-- a table is ten pairs in their ranges
pub record TableHeld (t : LevelTable) : Type 0 where
  pub count : length t.pairs ≡ 10
  pub pairs : PairsHeld t.pairs

pub table-held : (l : List ℕ) → T (pairs_allowed 10 l) → TableHeld (table_from l)
table-held l a = record { count = pairs-count 10 l; pairs = pairs-held 10 l a }

module _ (t : LevelTable) (h : TableHeld t) where
  table-length : length (pairs_bytes t.pairs) ≡ 80
  table-length = pairs-length t.pairs ∙ omega (arith, h.count)

  table-back : table_from (pairs_bytes t.pairs) ≡ t
  table-back =
      let p = ap (λ (n : ℕ). pairs_from n (pairs_bytes t.pairs)) (sym h.count) ∙ pairs-back t.pairs h.pairs in
      λ i. record { pairs = p i }

  table-fine : T (pairs_allowed 10 (pairs_bytes t.pairs))
  table-fine = rw h.count at (pairs-fine t.pairs h.pairs)

pub record DataHeld (d : DataKept) : Type 0 where
  pub a : Level d.reals.a
  pub b : Level d.reals.b
  pub table1 : TableHeld d.table1
  pub table2 : TableHeld d.table2

module _ (l : List ℕ) (e : length l ≡ 168) (t : T (are_bytes l)) (h : T (kept_allowed l)) where
  tests : T (real_allowed (part 0 4 l)) × (T (real_allowed (part 4 4 l)) × (T (pairs_allowed 10 (part 8 80 l)) × T (pairs_allowed 10 (part 88 80 l))))
  unfolding kept_allowed
  tests =
      let a = both (real_allowed (part 0 4 l)) _ h in
      let b = both (real_allowed (part 4 4 l)) _ a.1 in
      (a.0, (b.0, both (pairs_allowed 10 (part 8 80 l)) (pairs_allowed 10 (part 88 80 l)) b.1))

  table-again : (at : ℕ) → at + 80 ≤ 168 → T (pairs_allowed 10 (part at 80 l)) → pairs_bytes (pairs_from 10 (part at 80 l)) ≡ part at 80 l
  table-again at m a =
      let n = part_length at 80 l (omega arith) in
      pairs-again 10 (part at 80 l) (omega (arith, n)) (bytes-part at 80 l t) a ∙ take_all 80 (part at 80 l) (omega (arith, n))

  pub data-again : kept_bytes (kept_from l) ≡ l
  unfolding kept_bytes kept_from
  data-again =
      beside (level-again (part 0 4 l) (part_length 0 4 l (omega arith)) (bytes-part 0 4 l t) tests.0)
      (beside (level-again (part 4 4 l) (part_length 4 4 l (omega arith)) (bytes-part 4 4 l t) tests.1.0)
      (beside (table-again 8 (omega arith) tests.1.1.0) (table-again 88 (omega arith) tests.1.1.1)))
      ∙ rw (part-more 8 80 80 l, part-more 4 4 160 l, part-more 0 4 164 l) (take_all 168 l (omega arith))

  pub data-held : DataHeld (kept_from l)
  unfolding kept_from
  data-held =
      record {
        a = level-from (part 0 4 l) tests.0;
        b = level-from (part 4 4 l) tests.1.0;
        table1 = table-held (part 8 80 l) tests.1.1.0;
        table2 = table-held (part 88 80 l) tests.1.1.1;
      }

module _ (d : DataKept) (h : DataHeld d) where
  abbrev one : List ℕ
  one = real_bytes d.reals.a

  abbrev two : List ℕ
  two = real_bytes d.reals.b

  abbrev three : List ℕ
  three = pairs_bytes d.table1.pairs

  abbrev four : List ℕ
  four = pairs_bytes d.table2.pairs

  three-long : length three ≡ 80
  three-long = table-length d.table1 h.table1

  four-long : length four ≡ 80
  four-long = table-length d.table2 h.table2

  pub data-length : length (kept_bytes d) ≡ 168
  unfolding kept_bytes
  data-length = simp length-append (omega (arith, real-length d.reals.a, real-length d.reals.b, three-long, four-long))

  part-one : part 0 4 (kept_bytes d) ≡ one
  unfolding kept_bytes
  part-one = take_at one _ 4 (real-length d.reals.a)

  after_one : drop 4 (kept_bytes d) ≡ two ++ (three ++ four)
  unfolding kept_bytes
  after_one = drop_at one _ 4 (real-length d.reals.a)

  after_two : drop 8 (kept_bytes d) ≡ three ++ four
  after_two = sym (drop-drop 4 4 (kept_bytes d)) ∙ ap (drop 4) after_one ∙ drop_at two _ 4 (real-length d.reals.b)

  part-two : part 4 4 (kept_bytes d) ≡ two
  part-two = ap (take 4) after_one ∙ take_at two _ 4 (real-length d.reals.b)

  part-three : part 8 80 (kept_bytes d) ≡ three
  part-three = ap (take 80) after_two ∙ take_at three _ 80 three-long

  part-four : part 88 80 (kept_bytes d) ≡ four
  part-four = ap (take 80) (sym (drop-drop 80 8 (kept_bytes d)) ∙ ap (drop 80) after_two ∙ drop_at three _ 80 three-long)
      ∙ take_all 80 four (omega (arith, four-long))

  pub data-back : kept_from (kept_bytes d) ≡ d
  unfolding kept_from
  data-back =
      let x = ap real_from part-one ∙ level-back d.reals.a h.a in
      let y = ap real_from part-two ∙ level-back d.reals.b h.b in
      let p = ap table_from part-three ∙ table-back d.table1 h.table1 in
      let q = ap table_from part-four ∙ table-back d.table2 h.table2 in
      λ i. record { reals = record { a = x i; b = y i }; table1 = p i; table2 = q i }

  pub data-fine : T (kept_allowed (kept_bytes d))
  unfolding kept_allowed
  data-fine =
      rw (part-one, part-two, part-three, part-four)
      (join (real_allowed one) _ (level-fine d.reals.a h.a) (join (real_allowed two) _ (level-fine d.reals.b h.b)
      (join (pairs_allowed 10 three) _ (table-fine d.table1 h.table1) (table-fine d.table2 h.table2))))
