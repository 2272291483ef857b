-- Sections in a row, whatever they are: their bytes and counts, put together and taken apart. By induction on the rows, so that one row more costs nothing here.
-- Assumes nothing.
use mathlib.Core.Path.{◌≡◌, refl, sym, ap, ap₂, ◌∙◌, subst}
use mathlib.Core.Bool.{Bool, true, false, cond}
use mathlib.Core.List.{List, [], ◌∷◌, ◌++◌, append_assoc}
use Prim.Native.Nat.{ℕ, zero, suc, ◌+◌, ◌<◌, ◌≤◌}
use native.Mathlib.Omega.{arith}
use lib.Dec.{T, eqb, eqb→eq, eqb_refl}
use lib.ListN.{length, take, drop, get_or, length-append, length-drop}
use lib.Pow.{are_bytes}
use lib.Seq.{take-add, take_at, drop_at, drop-drop}
use Rattle.model.specs.Image.{Section, part, framed, sum_place, split, counts_match, all_allowed, standing, length_of, version_among}
use Rattle.model.proofs.Images.Tests.{both, join}
use Rattle.model.proofs.Images.Parts.{bytes-part, bytes_drop, part_length, part-more, one_byte, beside}

-- contents of the rows' sizes, and allowed there
abbrev pub Fit : List Section → List (List ℕ) → Type 0
Fit [] [] = Unit {0}
Fit [] (c ∷ cs) = ⊥
Fit (r ∷ rs) [] = ⊥
Fit (r ∷ rs) (c ∷ cs) = (length c ≡ r.size) × Fit rs cs

abbrev pub Fine : List Section → List (List ℕ) → Type 0
Fine [] cs = Unit {0}
Fine (r ∷ rs) [] = ⊥
Fine (r ∷ rs) (c ∷ cs) = T (are_bytes c) × (T (r.allowed c) × Fine rs cs)

-- ---- put together
pub framed-length : (rs : List Section) (cs : List (List ℕ)) → Fit rs cs → length (framed rs cs) ≡ sum_place rs
unfolding framed
framed-length [] [] f = refl
framed-length [] (c ∷ cs) f = absurd f
framed-length (r ∷ rs) [] f = absurd f
framed-length (r ∷ rs) (c ∷ cs) f = simp length-append (omega (arith, f.0, framed-length rs cs f.1))

module _ (r : Section) (rs : List Section) (c : List ℕ) (cs : List (List ℕ)) (rest : List ℕ) (e : length c ≡ r.size) where
  head-part : part 1 r.size (r.count ∷ (c ++ framed rs cs) ++ rest) ≡ c
  head-part = rw (append_assoc c (framed rs cs) rest) (take_at c _ r.size e)

  head-rest : drop (1 + r.size) (r.count ∷ (c ++ framed rs cs) ++ rest) ≡ framed rs cs ++ rest
  head-rest = sym (drop-drop r.size 1 _) ∙ rw (append_assoc c (framed rs cs) rest) (drop_at c _ r.size e)

-- the contents come back
pub split-framed : (rs : List Section) (cs : List (List ℕ)) (rest : List ℕ) → Fit rs cs → split rs (framed rs cs ++ rest) ≡ cs
unfolding split framed
split-framed [] [] rest f = refl
split-framed [] (c ∷ cs) rest f = absurd f
split-framed (r ∷ rs) [] rest f = absurd f
split-framed (r ∷ rs) (c ∷ cs) rest f =
    ap₂ (λ (x : List ℕ) (xs : List (List ℕ)). x ∷ xs) (head-part r rs c cs rest f.0)
    (ap (split rs) (head-rest r rs c cs rest f.0) ∙ split-framed rs cs rest f.1)

-- and the counts stand where they are looked for
pub counts-framed : (rs : List Section) (cs : List (List ℕ)) (rest : List ℕ) → Fit rs cs → T (counts_match rs (framed rs cs ++ rest))
unfolding counts_match framed
counts-framed [] [] rest f = tt
counts-framed [] (c ∷ cs) rest f = absurd f
counts-framed (r ∷ rs) [] rest f = absurd f
counts-framed (r ∷ rs) (c ∷ cs) rest f =
    join (eqb r.count r.count) _ (eqb_refl r.count) (rw (head-rest r rs c cs rest f.0) (counts-framed rs cs rest f.1))

-- ---- taken apart
pub split-fit : (rs : List Section) (l : List ℕ) → sum_place rs ≤ length l → Fit rs (split rs l)
unfolding split
split-fit [] l h = tt
split-fit (r ∷ rs) l h = (part_length 1 r.size l (omega arith), split-fit rs (drop (1 + r.size) l) (simp length-drop (omega arith)))

pub split-fine : (rs : List Section) (l : List ℕ) → T (are_bytes l) → T (all_allowed rs (split rs l)) → Fine rs (split rs l)
unfolding split all_allowed
split-fine [] l t a = tt
split-fine (r ∷ rs) l t a =
    let b = both (r.allowed (part 1 r.size l)) _ a in
    (bytes-part 1 r.size l t, (b.0, split-fine rs (drop (1 + r.size) l) (bytes_drop (1 + r.size) l t) b.1))

-- the same bytes again
pub framed-split : (rs : List Section) (l : List ℕ) → sum_place rs ≤ length l → T (counts_match rs l) → framed rs (split rs l) ≡ take (sum_place rs) l
unfolding split framed counts_match
framed-split [] l h c = one_byte 0 l 1 (omega arith) (eqb→eq (get_or l 0 0) 1 c)
framed-split (r ∷ rs) l h c =
    let b = both (eqb (get_or l 0 0) r.count) _ c in
    let n = r.size in
    let first = one_byte 0 l r.count (omega arith) (eqb→eq (get_or l 0 0) r.count b.0) in
    let more = framed-split rs (drop (1 + n) l) (simp length-drop (omega arith)) b.1 in
    beside {a = r.count ∷ []} {b = part 1 n l ++ framed rs (split rs (drop (1 + n) l))} first (ap (λ (x : List ℕ). part 1 n l ++ x) more)
    ∙ sym (append_assoc (part 0 1 l) (part 1 n l) _)
    ∙ ap (λ (x : List ℕ). x ++ take (sum_place rs) (drop (1 + n) l)) (part-more 0 1 n l)
    ∙ sym (take-add (1 + n) (sum_place rs) l)

-- ---- sections that an image is older than
pub fit-more : (n : ℕ) (rs : List Section) (cs : List (List ℕ)) → Fit (take n rs) cs → Fit rs (standing rs) → Fit rs (cs ++ standing (drop n rs))
fit-more zero rs [] f g = g
fit-more zero rs (c ∷ cs) f g = absurd f
fit-more (suc n) [] [] f g = tt
fit-more (suc n) [] (c ∷ cs) f g = absurd f
fit-more (suc n) (r ∷ rs) [] f g = absurd f
fit-more (suc n) (r ∷ rs) (c ∷ cs) f g = (f.0, fit-more n rs cs f.1 g.1)

pub fine_more : (n : ℕ) (rs : List Section) (cs : List (List ℕ)) → Fit (take n rs) cs → Fine (take n rs) cs → Fine rs (standing rs)
    → Fine rs (cs ++ standing (drop n rs))
fine_more zero rs [] t f g = g
fine_more zero rs (c ∷ cs) t f g = absurd t
fine_more (suc n) [] [] t f g = tt
fine_more (suc n) [] (c ∷ cs) t f g = absurd t
fine_more (suc n) (r ∷ rs) [] t f g = absurd f
fine_more (suc n) (r ∷ rs) (c ∷ cs) t f g = (f.0, (f.1.0, fine_more n rs cs t.1 f.1.1 g.1.1))

-- ---- the version of an image has its length
pub version-length : (vs : List ℕ) (n : ℕ) → 0 < version_among vs n → n ≡ length_of (version_among vs n)
version-length [] n h = absurd (omega arith)
version-length (v ∷ vs) n h = go (eqb n (length_of v)) refl (version-length vs n) h
  where
    go : (b : Bool) → eqb n (length_of v) ≡ b → (0 < version_among vs n → n ≡ length_of (version_among vs n)) → 0 < cond b v (version_among vs n)
        → n ≡ length_of (cond b v (version_among vs n))
    go true e later k = eqb→eq n (length_of v) (subst T (sym e) tt)
    go false e later k = later k
