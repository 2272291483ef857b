-- Document 02, Change 1, 3 to 9: what a level table answers for a finite X. Definitions only.
use Rattle.std.specs.Prelude.{cond, List, [], ◌∷◌, map, ℕ, ◌-◌, pos, get_or, drop, eqb, Float}
use Rattle.std.specs.Float.{binary32}
use Rattle.std.specs.Float.Ieee.{of_int, to_bits, add, sub, mul, div, lt, le, eq}
use Rattle.std.specs.Float.Ieee.Scale.{finite}
use Rattle.model.specs.declared.Pair.{Pair}
use Rattle.model.specs.declared.LevelTable.{LevelTable}
use Rattle.model.specs.declared.DataChannel.{DataChannel}

abbrev pub zero : Float
zero = of_int binary32 (pos 0)

abbrev pub pair_of : Float → Float → Pair
pair_of x y = record { x = x; y = y }

-- Change 1, 9: a Real of a table that is not finite acts as 0, which it is after a refused power-up
abbrev pub acting : Float → Float
acting x = cond (finite x) x zero

abbrev pub acting_pair : Pair → Pair
acting_pair p = pair_of (acting p.x) (acting p.y)

-- the pairs of a table as they act
abbrev pub acts : LevelTable → List Pair
acts t = map acting_pair t.pairs

-- pair k, counted from 1; zeros stand past the last one
abbrev pub pair_at : List Pair → ℕ → Pair
pair_at ps k = get_or ps (k - 1) (pair_of zero zero)

-- 6: Y + ((rise times part) / width), six operations, each rounded once to 32 bits; p is pair k − 1 and q pair k
unfoldable pub between : Pair → Pair → Float → Float
between p q x =
    let rise = sub binary32 q.y p.y in
    let part = sub binary32 x p.x in
    let width = sub binary32 q.x p.x in
    add binary32 p.y (div binary32 (mul binary32 rise part) width)

-- 6: exactly Yk where X equals Xk
unfoldable pub on_line : Pair → Pair → Float → Float
on_line p q x = cond (eq x q.x) q.y (between p q x)

-- 5: the first pair after p that X is not above. Where X is above all of them there is none, and 0 stands there
unfoldable pub from_first : Pair → List Pair → Float → Float
from_first p [] x = zero
from_first p (q ∷ qs) x = cond (lt q.x x) (from_first q qs x) (on_line p q x)

-- 4: Y1 at or below X1, and else Y10 above X10
unfoldable pub looked_up : List Pair → Float → Float
looked_up ps x =
    cond (le x (pair_at ps 1).x) (pair_at ps 1).y
    (cond (lt (pair_at ps 10).x x) (pair_at ps 10).y
    (from_first (pair_at ps 1) (drop 1 ps) x))

-- 3: table 1 or 2
abbrev pub table_of : ℕ → DataChannel → LevelTable
table_of k d = cond (eqb k 1) d.table1 d.table2

-- 7: the 32 bits that are answered; a NaN has the one pattern
unfoldable pub level_bits : ℕ → Float → DataChannel → ℕ
level_bits k x d = to_bits binary32 (looked_up (acts (table_of k d)) x)
