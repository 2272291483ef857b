-- An image by the places of its sections, as the code looks at it: whatever the rows are, and for each known length. Assumes nothing.
use mathlib.Core.Path.{◌≡◌, refl, sym, ap, ap₂, ◌∙◌}
use mathlib.Core.Bool.{Bool, true, false, cond, ◌&&◌, ◌||◌, and-true}
use mathlib.Core.List.{List, [], ◌∷◌, ◌++◌}
use Prim.Native.Nat.{ℕ, zero, suc, ◌+◌, ◌-◌, ◌%◌, ◌<◌, ◌≤◌}
use native.Mathlib.Omega.{arith}
use lib.Dec.{eqb, ltb}
use lib.ListN.{length, take, drop, get_or, replicate}
use lib.Seq.{take_all, get_or-drop, drop-drop}
use borrow.Author.Tests.{ltb-true, ltb-false, lt-ltb}
use Rattle.integers.specs.Bytes.{number}
use Rattle.model.specs.Image.{Section, part, module_section, sections, versions, sum_place, length_of, image_size, version_among, version}
use Rattle.model.specs.Image.{own, split, standing, contents, total, size_right, counts_match, counts_right, sum_right, all_allowed, values_allowed}
use Rattle.model.proofs.Images.Sections.{version-length}
use Rattle.image.specs.Lengths.{place_of, KnownLength}

-- ---- rows from place `at` on
-- their counts, and the sum's
abbrev counts_at : ℕ → List Section → List ℕ → Bool
counts_at at [] l = eqb (get_or l at 0) 1
counts_at at (r ∷ rs) l = eqb (get_or l at 0) r.count && counts_at (at + (1 + r.size)) rs l

-- whether each section is allowed
abbrev allowed_at : ℕ → List Section → List ℕ → Bool
allowed_at at [] l = true
allowed_at at (r ∷ []) l = r.allowed (part (at + 1) r.size l)
allowed_at at (r ∷ q ∷ rs) l = r.allowed (part (at + 1) r.size l) && allowed_at (at + (1 + r.size)) (q ∷ rs) l

count_at : (at : ℕ) (l : List ℕ) → get_or (drop at l) 0 0 ≡ get_or l at 0
count_at at l = let e : at + 0 ≡ at = omega arith in get_or-drop at l 0 0 ∙ ap (λ (n : ℕ). get_or l n 0) e

counts-from : (at : ℕ) (rs : List Section) (l : List ℕ) → counts_match rs (drop at l) ≡ counts_at at rs l
unfolding counts_match
counts-from at [] l = ap (λ (n : ℕ). eqb n 1) (count_at at l)
counts-from at (r ∷ rs) l =
    ap₂ (λ (n : ℕ) (b : Bool). eqb n r.count && b) (count_at at l)
    (ap (counts_match rs) (drop-drop (1 + r.size) at l) ∙ counts-from (at + (1 + r.size)) rs l)

allowed-from : (at : ℕ) (rs : List Section) (l : List ℕ) → all_allowed rs (split rs (drop at l)) ≡ allowed_at at rs l
unfolding all_allowed split
allowed-from at [] l = refl
allowed-from at (r ∷ []) l = and-true (r.allowed (part 1 r.size (drop at l))) ∙ ap (λ (x : List ℕ). r.allowed (take r.size x)) (drop-drop 1 at l)
allowed-from at (r ∷ q ∷ rs) l =
    ap₂ (λ (x : List ℕ) (b : Bool). r.allowed (take r.size x) && b) (drop-drop 1 at l)
    (ap (λ (x : List ℕ). all_allowed (q ∷ rs) (split (q ∷ rs) x)) (drop-drop (1 + r.size) at l) ∙ allowed-from (at + (1 + r.size)) (q ∷ rs) l)

-- what the first v rows hold, and what stands for the others: a row among the first v
held-from : (v i at : ℕ) (rs : List Section) (l : List ℕ) (cs : List (List ℕ)) → i < v → i < length rs
    → get_or (split (take v rs) (drop at l) ++ cs) i [] ≡ part (at + sum_place (take i rs)) (get_or rs i module_section).size l
unfolding split
held-from zero i at rs l cs h k = absurd (omega arith)
held-from (suc v) i at [] l cs h k = absurd (omega arith)
held-from (suc v) zero at (r ∷ rs) l cs h k = ap (take r.size) (drop-drop 1 at l)
held-from (suc v) (suc i) at (r ∷ rs) l cs h k =
    let e : at + (1 + r.size) + sum_place (take i rs) ≡ at + (1 + r.size + sum_place (take i rs)) = omega arith in
    ap (λ (x : List ℕ). get_or (split (take v rs) x ++ cs) i []) (drop-drop (1 + r.size) at l)
    ∙ held-from v i (at + (1 + r.size)) rs l cs (omega arith) (omega arith)
    ∙ ap (λ (n : ℕ). part n (get_or rs i module_section).size l) e

-- and one that is none of them
standing-at : (i : ℕ) (rs : List Section) → i < length rs → get_or (standing rs) i [] ≡ (get_or rs i module_section).older
standing-at i [] h = absurd (omega arith)
standing-at zero (r ∷ rs) h = refl
standing-at (suc i) (r ∷ rs) h = standing-at i rs (omega arith)

older-from : (v i : ℕ) (rs : List Section) (l : List ℕ) → v ≤ i → i < length rs
    → get_or (split (take v rs) l ++ standing (drop v rs)) i [] ≡ (get_or rs i module_section).older
unfolding split
older-from zero i rs l h k = standing-at i rs k
older-from (suc v) i [] l h k = absurd (omega arith)
older-from (suc v) zero (r ∷ rs) l h k = absurd (omega arith)
older-from (suc v) (suc i) (r ∷ rs) l h k = older-from v i rs (drop (1 + r.size) l) (omega arith) (omega arith)

-- more rows are longer
longer : (n m : ℕ) (rs : List Section) → n ≤ m → sum_place (take n rs) ≤ sum_place (take m rs)
longer zero zero rs h = omega arith
longer zero (suc m) [] h = omega arith
longer zero (suc m) (r ∷ rs) h = omega (arith, longer zero m rs (omega arith))
longer (suc n) zero rs h = absurd (omega arith)
longer (suc n) (suc m) [] h = omega arith
longer (suc n) (suc m) (r ∷ rs) h = omega (arith, longer n m rs (omega arith))

in_all : (n : ℕ) (rs : List Section) → sum_place (take n rs) ≤ sum_place rs
in_all zero [] = omega arith
in_all zero (r ∷ rs) = omega (arith, in_all zero rs)
in_all (suc n) [] = omega arith
in_all (suc n) (r ∷ rs) = omega (arith, in_all n rs)

longer-by : (n m : ℕ) (rs : List Section) → n < m → m ≤ length rs → sum_place (take n rs) < sum_place (take m rs)
longer-by n zero rs h k = absurd (omega arith)
longer-by n (suc m) [] h k = absurd (omega arith)
longer-by zero (suc m) (r ∷ rs) h k = omega (arith, longer zero m rs (omega arith))
longer-by (suc n) (suc m) (r ∷ rs) h k = omega (arith, longer-by n m rs (omega arith) (omega arith))

-- ---- the known lengths
-- versions that have n sections and more
abbrev AtLeast : ℕ → List ℕ → Type 0
AtLeast n [] = Unit {0}
AtLeast n (v ∷ vs) = (n ≤ v) × AtLeast n vs

abbrev known_length : List ℕ → ℕ → Bool
known_length [] n = false
known_length (v ∷ []) n = eqb n (length_of v)
known_length (v ∷ w ∷ vs) n = eqb n (length_of v) || known_length (w ∷ vs) n

positive : (b : Bool) (v n : ℕ) → 1 ≤ v → ltb 0 (cond b v n) ≡ b || ltb 0 n
positive true v n h = lt-ltb 0 v h
positive false v n h = refl

alone : (b : Bool) → b || false ≡ b
alone true = refl
alone false = refl

known_from : (vs : List ℕ) (n : ℕ) → AtLeast 1 vs → known_length vs n ≡ ltb 0 (version_among vs n)
known_from [] n h = refl
known_from (v ∷ []) n h = sym (positive (eqb n (length_of v)) v 0 h.0 ∙ alone (eqb n (length_of v)))
known_from (v ∷ w ∷ vs) n h =
    ap (λ (b : Bool). eqb n (length_of v) || b) (known_from (w ∷ vs) n h.1) ∙ sym (positive (eqb n (length_of v)) v (version_among (w ∷ vs) n) h.0)

least-from : (m : ℕ) (vs : List ℕ) (n : ℕ) → AtLeast m vs → 0 < version_among vs n → m ≤ version_among vs n
least-from m [] n a h = absurd (omega arith)
least-from m (v ∷ vs) n a h = go (eqb n (length_of v)) (least-from m vs n a.1) h
  where
    go : (b : Bool) → (0 < version_among vs n → m ≤ version_among vs n) → 0 < cond b v (version_among vs n) → m ≤ cond b v (version_among vs n)
    go true later k = a.0
    go false later k = later k

-- question 10
pub size-known : (img : List ℕ) → known_length versions (length img) ≡ size_right img
unfolding size_right version
size-known img = known_from versions (length img) (omega arith, (omega arith, tt))

some-version : (img : List ℕ) → size_right img ≡ true → 0 < version img
unfolding size_right
some-version img e = ltb-true 0 (version img) e

-- the length is that of the version
length-known : (img : List ℕ) → size_right img ≡ true → length img ≡ length_of (version img)
unfolding version
length-known img e = version-length versions (length img) (some-version img e)

pub sized : (img : List ℕ) → size_right img ≡ true → KnownLength img
unfolding version
sized img e =
    let two = least-from 2 versions (length img) (omega arith, (omega arith, tt)) (some-version img e) in
    record { right = e; least = omega (arith, longer 2 (version img) sections two, length-known img e) }

-- an image of one byte over and over, as of zeros
pub filled-sized : (b : ℕ) → KnownLength (replicate image_size b)
unfolding size_right version
filled-sized b = record { right = refl; least = omega arith }

-- ---- the places of an image of a known length
module _ (img : List ℕ) (s : KnownLength img) where
  -- it has the first v sections, or not, by its length
  pub has : (v : ℕ) → v ≤ length sections → length_of v ≤ length img → v ≤ version img
  has v k h = go (ltb (version img) v) refl
    where
      go : (b : Bool) → ltb (version img) v ≡ b → v ≤ version img
      go true e = absurd (omega (arith, longer-by (version img) v sections (ltb-true (version img) v e) k, length-known img s.right))
      go false e = ltb-false (version img) v e

  pub lacks : (v : ℕ) → length img < length_of v → version img < v
  lacks v h = go (ltb (version img) v) refl
    where
      go : (b : Bool) → ltb (version img) v ≡ b → version img < v
      go true e = ltb-true (version img) v e
      go false e = absurd (omega (arith, longer v (version img) sections (ltb-false (version img) v e), length-known img s.right))

  -- so these are its sections
  pub own_first : (v : ℕ) → v ≤ length sections → length_of v ≤ length img → length img < length_of (suc v) → own img ≡ take v sections
  own_first v k h j =
      let e : version img ≡ v = omega (arith, has v k h, lacks (suc v) j) in
      ap (λ (n : ℕ). take n sections) e

  pub own-all : image_size ≤ length img → own img ≡ sections
  own-all h = take_all (version img) sections (has (length sections) (omega arith) h)

  pub counts-at : (rs : List Section) → own img ≡ rs → counts_at 0 rs img ≡ counts_right img
  unfolding counts_right
  counts-at rs e = sym (ap (λ (qs : List Section). counts_match qs img) e ∙ counts-from 0 rs img)

  pub values-at : (rs : List Section) → own img ≡ rs → allowed_at 0 rs img ≡ values_allowed img
  unfolding values_allowed
  values-at rs e = sym (ap (λ (qs : List Section). all_allowed qs (split qs img)) e ∙ allowed-from 0 rs img)

  -- the sum is its last two bytes
  pub sum-at : eqb (number (drop (length img - 2) img)) (total (take (length img - 2) img) % 65536) ≡ sum_right img
  unfolding sum_right
  sum-at =
      let e : length img - 2 ≡ sum_place (own img) = omega (arith, length-known img s.right) in
      ap (λ (n : ℕ). eqb (number (drop n img)) (total (take n img) % 65536)) e

  pub at_most : length img ≤ image_size
  at_most = omega (arith, in_all (version img) sections, length-known img s.right)

  -- a section that it has, and one that is younger than it
  pub section-at : (i : ℕ) → i < version img → i < length sections → get_or (contents img) i [] ≡ part (place_of i) (get_or sections i module_section).size img
  unfolding contents
  section-at i h k =
      let e : 0 + place_of i ≡ place_of i = omega arith in
      held-from (version img) i 0 sections img (standing (drop (version img) sections)) h k
      ∙ ap (λ (n : ℕ). part n (get_or sections i module_section).size img) e

  pub section-older : (i : ℕ) → version img ≤ i → i < length sections → get_or (contents img) i [] ≡ (get_or sections i module_section).older
  unfolding contents
  section-older i h k = older-from (version img) i sections img h k
