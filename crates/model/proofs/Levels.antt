-- The claims of specs/Levels.antt. The lookup passes the pairs that X is above, and in a table that rises those before pair k are, where X is Xk. Assumes
-- nothing.
use mathlib.Core.Path.{◌≡◌, refl, ap₂, ◌∙◌}
use mathlib.Core.Bool.{true, false}
use mathlib.Core.List.{List, [], ◌∷◌, map}
use Prim.Native.Nat.{ℕ, zero, suc, ◌+◌, ◌-◌, ◌<◌, ◌≤◌}
use native.Mathlib.Nat.{le_of_suc-le-suc, not-suc-le-zero}
use native.Mathlib.Omega.{arith}
use lib.Dec.{T}
use lib.ListN.{length, get_or, length-map}
use lib.Ieee.{Float, nan, inf, fin, binary32, to_bits, of_int, lt, le, eq}
use lib.Ieee.Scale.{finite}
use Rattle.model.specs.declared.Pair.{Pair}
use Rattle.model.specs.declared.LevelTable.{LevelTable}
use Rattle.model.specs.Lookup.{zero as realZero, pair_of, acting, acting_pair, acts, pair_at, on_line, from_first, looked_up}
use Rattle.model.specs.Levels.{Rising, Levels}
use Rattle.model.proofs.Laws.Reals.{below-below, below_equal, equal-below, not-above, equal-not-above, not-at-or-below, equal-at-or-below}

-- what stands past the last pair
abbrev zeros : Pair
zeros = pair_of realZero realZero

-- ---- every entry acts as a finite one
abbrev AllFinite : List Pair → Type 0
AllFinite [] = Unit {0}
AllFinite (p ∷ ps) = T (finite p.x) × AllFinite ps

acting-finite : (x : Float) → T (finite (acting x))
unfolding of_int
acting-finite nan = tt
acting-finite (inf s) = tt
acting-finite (fin s m e) = tt

acts-finite : (ps : List Pair) → AllFinite (map acting_pair ps)
acts-finite [] = tt
acts-finite (p ∷ ps) = (acting-finite p.x, acts-finite ps)

at-finite : (ps : List Pair) → AllFinite ps → (i : ℕ) → i < length ps → T (finite (get_or ps i zeros).x)
at-finite [] f i h = absurd (not-suc-le-zero h)
at-finite (p ∷ ps) f zero h = f.0
at-finite (p ∷ ps) f (suc i) h = at-finite ps f.1 i (le_of_suc-le-suc h)

-- ---- any list: the pairs that X is above are passed
passed : (p : Pair) (qs : List Pair) (x : Float) (i : ℕ) → i < length qs → ((j : ℕ) → j < i → lt (get_or qs j zeros).x x ≡ true)
    → lt (get_or qs i zeros).x x ≡ false
    → from_first p qs x ≡ on_line (get_or (p ∷ qs) i zeros) (get_or qs i zeros) x
unfolding from_first
passed p [] x i h a b = absurd (not-suc-le-zero h)
passed p (q ∷ qs) x zero h a b = rw b
passed p (q ∷ qs) x (suc i) h a b = rw (a 0 (omega arith)) (passed q qs x i (le_of_suc-le-suc h) (λ j k. a (suc j) (omega arith)) b)

-- ---- a list that rises
later : (p : Pair) (qs : List Pair) → AllFinite (p ∷ qs) → Rising (p ∷ qs) → (i : ℕ) → i < length qs → lt p.x (get_or qs i zeros).x ≡ true
later p [] f r i h = absurd (not-suc-le-zero h)
later p (q ∷ qs) f r zero h = r.0
later p (q ∷ qs) f r (suc i) h =
    below-below p.x q.x (get_or qs i zeros).x f.0 f.1.0 (at-finite qs f.1.1 i (le_of_suc-le-suc h)) r.0
    (later q qs f.1 r.1 i (le_of_suc-le-suc h))

-- the pair at X decides
at_entry : (p : Pair) (qs : List Pair) → AllFinite (p ∷ qs) → Rising (p ∷ qs) → (x : Float) → T (finite x) → (i : ℕ) → i < length qs
    → eq x (get_or qs i zeros).x ≡ true
    → from_first p qs x ≡ (get_or qs i zeros).y
unfolding from_first on_line
at_entry p [] f r x g i h e = absurd (not-suc-le-zero h)
at_entry p (q ∷ qs) f r x g zero h e = rw (equal-not-above x q.x g f.1.0 e, e)
at_entry p (q ∷ qs) f r x g (suc i) h e =
    let n = le_of_suc-le-suc h in
    rw (below_equal q.x (get_or qs i zeros).x x f.1.0 (at-finite qs f.1.1 i n) g (later q qs f.1 r.1 i n) e)
    (at_entry q qs f.1 r.1 x g i n e)

-- and X is not above the last, pair n
not-past : (p : Pair) (qs : List Pair) → AllFinite (p ∷ qs) → Rising (p ∷ qs) → (x : Float) → T (finite x) → (i n : ℕ) → i ≤ n → n < length (p ∷ qs)
    → eq x (get_or (p ∷ qs) i zeros).x ≡ true → lt (get_or (p ∷ qs) n zeros).x x ≡ false
not-past p qs f r x g zero zero h l e = equal-not-above x p.x g f.0 e
not-past p qs f r x g zero (suc n) h l e =
    let k = le_of_suc-le-suc l in
    let y = (get_or qs n zeros).x in
    let u = at-finite qs f.1 n k in
    not-above x y g u (equal-below x p.x y g f.0 u e (later p qs f r n k))
not-past p [] f r x g (suc i) n h l e = absurd (omega arith)
not-past p (q ∷ qs) f r x g (suc i) zero h l e = absurd (omega arith)
not-past p (q ∷ qs) f r x g (suc i) (suc n) h l e = not-past q qs f.1 r.1 x g i n (le_of_suc-le-suc h) (le_of_suc-le-suc l) e

-- the whole lookup at an entry
entry : (ps : List Pair) → length ps ≡ 10 → AllFinite ps → Rising ps → (x : Float) → T (finite x) → (k : ℕ) → k < 10 → eq x (get_or ps k zeros).x ≡ true
    → looked_up ps x ≡ (get_or ps k zeros).y
unfolding looked_up
entry [] n f r x g k h e = absurd (omega arith)
entry (p ∷ qs) n f r x g zero h e = rw (equal-at-or-below x p.x e)
entry (p ∷ qs) n f r x g (suc k) h e =
    let m : k < length qs = omega arith in
    let above = not-at-or-below p.x x f.0 g (below_equal p.x (get_or qs k zeros).x x f.0 (at-finite qs f.1 k m) g (later p qs f r k m) e) in
    let within = not-past p qs f r x g (suc k) 9 (omega arith) (omega arith) e in
    rw (above, within) (at_entry p qs f r x g k m e)

-- ---- the claims, whose pairs are counted from 1
same : (k : ℕ) → k + 1 - 1 ≡ k
same k = omega arith

any-table : (ps : List Pair) → length ps ≡ 10 → (x : Float) (k : ℕ) → 1 ≤ k → k < 10 → le x (pair_at ps 1).x ≡ false → lt (pair_at ps 10).x x ≡ false
    → ((j : ℕ) → 1 ≤ j → j < k → lt (pair_at ps (j + 1)).x x ≡ true) → lt (pair_at ps (k + 1)).x x ≡ false
    → looked_up ps x ≡ on_line (pair_at ps k) (pair_at ps (k + 1)) x
unfolding looked_up
any-table [] n x k 1≤k h a b p q = absurd (omega arith)
any-table (y ∷ ys) n x zero 1≤k h a b p q = absurd (omega arith)
any-table (y ∷ ys) n x (suc i) 1≤k h a b p q =
    let u : i ≡ suc i - 1 = omega arith in
    let v : suc i ≡ suc i + 1 - 1 = omega arith in
    rw (a, b)
    (passed y ys x i (omega arith) (λ j l. rw (same (suc j)) at (p (suc j) (omega arith) (omega arith))) (rw (same (suc i)) at q)
    ∙ ap₂ (λ (c d : ℕ). on_line (get_or (y ∷ ys) c zeros) (get_or (y ∷ ys) d zeros) x) u v)

below : (t : LevelTable) (x : Float) → le x (pair_at (acts t) 1).x ≡ true → looked_up (acts t) x ≡ (pair_at (acts t) 1).y
unfolding looked_up
below t x e = rw e

past : (t : LevelTable) (x : Float) → le x (pair_at (acts t) 1).x ≡ false → lt (pair_at (acts t) 10).x x ≡ true → looked_up (acts t) x ≡ (pair_at (acts t) 10).y
unfolding looked_up
past t x a b = rw (a, b)

not_a_number : to_bits binary32 nan ≡ 0x7FC0_0000
unfolding to_bits
not_a_number = refl

pub levels : Levels
levels =
    record {
      at_or_below = below;
      above = past;
      between = λ t n x k 1≤k h a b p q. any-table (acts t) (length-map t.pairs acting_pair ∙ n) x k 1≤k h a b p q;
      entries = λ t n r x g k h e. rw (same k) (entry (acts t) (length-map t.pairs acting_pair ∙ n) (acts-finite t.pairs) r x g k h (rw (same k) at e));
      one_nan = not_a_number;
    }
