-- The claims on a charge hold. Assumes nothing.
--
-- More litres cost no less, since each block's part grows with them. One litre more is one at the price of the first block whose limit it is not above: the parts of
-- the blocks before it are full, and those of the blocks behind it empty. The other claims follow from the laws of blocks.
use mathlib.Core.Path.{◌≡◌, refl, sym, ap, ◌∙◌}
use mathlib.Core.Bool.{Bool, true, false, cond, ◌&&◌}
use mathlib.Core.List.{List, [], ◌∷◌}
use Prim.Native.Nat.{ℕ, zero, suc, ◌+◌, ◌*◌, ◌-◌, ◌%◌, ◌<◌, ◌≤◌, min, zero-le}
use native.Mathlib.Nat.{zero-mul, sub-zero, mul-le-mul_right}
use native.Mathlib.Omega.{arith}
use lib.Dec.{leb, eqb}
use lib.IntN.{ℤ, pos, ◌+ℤ◌, ◌-ℤ◌}
use lib.ListN.{length, get_or, take}
use mir.Syntax.{w32}
use borrow.Author.Tests.{leb-true, leb-false, eqb-true, le-leb}
use Rattle.integers.specs.Integers.{modulo}
use Rattle.integers.proofs.Laws.Residues.{modulo-add, modulo-sub, modulo-lt}
use Rattle.integers.proofs.Claims.{wrapped-claim}
use Rattle.counts.specs.Counts.{counter_step}
use Rattle.model.specs.declared.Refusal.{Refusal}
use Rattle.model.specs.declared.Refusal.TheVariants.{Beyond, Unlisted, NotWritable, WrongLength, BufferTooShort, NotEnabled, NotAllowed}
use Rattle.model.specs.declared.Refusal.TheVariants.{NoChannel, NotFinite, ImageLength, ImageCounts, ImageSum, ImageValues, NoRoom, NoTable, NotMinute, TooManyWindows}
use Rattle.model.specs.Questions.{refusal_number}
use Rattle.model.proofs.Laws.Tests.{both, by-test}
use Rattle.charge.specs.declared.Tariff.{Tariff}
use Rattle.charge.specs.Charge.{limits_of, prices_of, pulses, litres, filled, priced, hundredths, rounded}
use Rattle.charge.specs.Charge.{question16, question17, rising, prices_allowed, Charged, refused, charged}
use Rattle.charge.specs.Claims.{total, after_rises, price_of, litre_by_litre, all_at, one_block, Charges}
use Rattle.charge.proofs.Laws.Blocks.{parts, upward, upward-rising, litres-held, most}
use Rattle.charge.proofs.Laws.Tariffs.{accepted, one_more}

-- ---- more litres cost no less
more : (ls ps : List ℕ) (n n' before : ℕ) → n ≤ n' → priced (filled n before ls) ps ≤ priced (filled n' before ls) ps
more [] [] n n' before h = zero-le
more (l ∷ ls) [] n n' before h = zero-le
more [] (p ∷ ps) n n' before h =
    let a : (n - before) * p ≤ (n' - before) * p = mul-le-mul_right p (omega arith) in omega (arith, a)
more (l ∷ ls) (p ∷ ps) n n' before h =
    let a : (min n l - before) * p ≤ (min n' l - before) * p = mul-le-mul_right p (omega arith) in
    omega (arith, a, more ls ps n n' l h)

-- ---- litre by litre
-- no litre lies above a limit that is not below n
none_above : (ls ps : List ℕ) (n before : ℕ) → n ≤ before → upward before ls ≡ true → priced (filled n before ls) ps ≡ 0
none_above [] [] n before h u = refl
none_above (l ∷ ls) [] n before h u = refl
none_above [] (p ∷ ps) n before h u =
    let e : n - before ≡ 0 = omega arith in rw e (omega arith)
none_above (l ∷ ls) (p ∷ ps) n before h u =
    let (a, b) = both (leb before l) (upward l ls) u in
    let i = none_above ls ps n l (omega (arith, leb-true before l a)) b in
    let e : min n l - before ≡ 0 = omega arith in
    rw e (omega (arith, i))

one-litre : (ls ps : List ℕ) (n before : ℕ) → before ≤ n → upward before ls ≡ true
    → priced (filled (suc n) before ls) ps ≡ priced (filled n before ls) ps + price_of (suc n) ls ps
one-litre [] [] n before h u = refl
one-litre (l ∷ ls) [] n before h u = refl
one-litre [] (p ∷ ps) n before h u =
    let e : suc n - before ≡ suc (n - before) = omega arith in rw e (omega arith)
one-litre (l ∷ ls) (p ∷ ps) n before h u =
    let (a, b) = both (leb before l) (upward l ls) u in
    by-test
    (λ (x : ℕ). (min (suc n) l - before) * p + priced (filled (suc n) l ls) ps ≡ ((min n l - before) * p + priced (filled n l ls) ps) + x)
    (leb (suc n) l)
    (λ e.
    let k = leb-true (suc n) l e in
    let f₁ : min (suc n) l - before ≡ suc (n - before) = omega (arith, k) in
    let f₂ : min n l - before ≡ n - before = omega (arith, k) in
    rw (f₁, f₂, none_above ls ps (suc n) l k b, none_above ls ps n l (omega (arith, k)) b) (omega arith))
    (λ e.
    let k = leb-false (suc n) l e in
    let f₁ : min (suc n) l ≡ l = omega (arith, k) in
    let f₂ : min n l ≡ l = omega (arith, k) in
    let i = one-litre ls ps n l (omega (arith, k)) b in
    rw (f₁, f₂) (omega (arith, i)))

by-litre : (ls ps : List ℕ) (n : ℕ) → upward 0 ls ≡ true → priced (filled n 0 ls) ps ≡ litre_by_litre n ls ps
by-litre ls ps zero u = none_above ls ps 0 0 zero-le u
by-litre ls ps (suc n) u = one-litre ls ps n 0 zero-le u ∙ rw (by-litre ls ps n u)

-- no litre costs nothing, whatever the limits
nothing-filled : (ls ps : List ℕ) (before : ℕ) → priced (filled 0 before ls) ps ≡ 0
nothing-filled [] [] before = refl
nothing-filled (l ∷ ls) [] before = refl
nothing-filled [] (p ∷ ps) before =
    let e : 0 - before ≡ 0 = omega arith in rw e (omega arith)
nothing-filled (l ∷ ls) (p ∷ ps) before =
    let e : min 0 l - before ≡ 0 = omega arith in rw e (omega (arith, nothing-filled ls ps l))

-- ---- the parts are all
all-litres : (ls : List ℕ) (n before : ℕ) → upward before ls ≡ true → total (filled n before ls) ≡ n - before
all-litres [] n before u = omega arith
all-litres (l ∷ ls) n before u =
    let (a, b) = both (leb before l) (upward l ls) u in
    omega (arith, all-litres ls n l b, parts n before l (leb-true before l a))

-- ---- one price
one : (p : ℕ) (ls ps : List ℕ) (n before : ℕ) → upward before ls ≡ true → length ps ≡ suc (length ls) → all_at p ps ≡ true
    → priced (filled n before ls) ps ≡ (n - before) * p
one p [] (q ∷ []) n before u e a = let (x, y) = both (eqb q p) true a in rw (eqb-true q p x) (omega arith)
one p (l ∷ ls) (q ∷ qs) n before u e a =
    let (c, d) = both (leb before l) (upward l ls) u in
    let (x, y) = both (eqb q p) (all_at p qs) a in
    let i = one p ls qs n l d (omega (arith, e)) y in
    let s : ((min n l - before) + (n - l)) * p ≡ (n - before) * p = ap (λ (m : ℕ). m * p) (parts n before l (leb-true before l c)) in
    rw (eqb-true q p x) (omega (arith, i, s))
one p [] [] n before u e a = absurd (omega (arith, e))
one p [] (q ∷ r ∷ rs) n before u e a = absurd (omega (arith, e))
one p (l ∷ ls) [] n before u e a = absurd (omega (arith, e))

-- ---- the same as far as they are looked at
same_start : (n : ℕ) (xs ys : List ℕ) → length xs ≡ length ys → ((i : ℕ) → i < n → get_or xs i 0 ≡ get_or ys i 0) → take n xs ≡ take n ys
same_start zero xs ys e h = refl
same_start (suc n) [] [] e h = refl
same_start (suc n) [] (y ∷ ys) e h = absurd (omega (arith, e))
same_start (suc n) (x ∷ xs) [] e h = absurd (omega (arith, e))
same_start (suc n) (x ∷ xs) (y ∷ ys) e h =
    ap (λ (z : ℕ). z ∷ take n xs) (h 0 (omega arith))
    ∙ ap (λ (zs : List ℕ). y ∷ zs) (same_start n xs ys (omega (arith, e)) (λ i k. h (suc i) (omega (arith, k))))

price-fits : (p : ℕ) (ps : List ℕ) → 0 < length ps → prices_allowed ps ≡ true → all_at p ps ≡ true → leb p 100000 ≡ true
price-fits p [] h c a = absurd (omega (arith, h))
price-fits p (q ∷ qs) h c a =
    let (x, y) = both (leb q 100000) (prices_allowed qs) c in
    let (u, v) = both (eqb q p) (all_at p qs) a in
    ap (λ (m : ℕ). leb m 100000) (sym (eqb-true q p u)) ∙ x

-- ---- the answer by its two questions
abbrev answered : Bool → Bool → ℕ → Charged
answered a b cents = cond a (cond b (record { number = 0; cents = cents }) (refused 17)) (refused 16)

done : (a b : Bool) (x : ℕ) → (answered a b x).number ≡ 0 → (a ≡ true) × (b ≡ true)
done true true x e = (refl, refl)
done true false x e = absurd (omega (arith, e))
done false b x e = absurd (omega (arith, e))

no_less : (a b : Bool) (x x' : ℕ) → x ≤ x' → (answered a b x).cents ≤ (answered a b x').cents
no_less true true x x' h = h
no_less true false x x' h = zero-le
no_less false b x x' h = zero-le

-- ---- Counter and its rises
risen : (n : ℕ) (z : ℤ) → modulo (after_rises n z) 4294967296 ≡ (modulo z 4294967296 + n) % 4294967296
unfolding counter_step modulo
risen zero z = omega (arith, modulo-lt z 4294967296 (omega arith))
risen (suc n) z =
    let i = risen n z in
    wrapped-claim.congruent w32 (after_rises n z +ℤ pos 1) ∙ modulo-add (after_rises n z) (pos 1) ∙ omega (arith, i)

own : (r : Refusal) → (refusal_number r ≡ 16 → ⊥) × (refusal_number r ≡ 17 → ⊥)
own Beyond = (λ e. omega (arith, e), λ e. omega (arith, e))
own Unlisted = (λ e. omega (arith, e), λ e. omega (arith, e))
own NotWritable = (λ e. omega (arith, e), λ e. omega (arith, e))
own WrongLength = (λ e. omega (arith, e), λ e. omega (arith, e))
own BufferTooShort = (λ e. omega (arith, e), λ e. omega (arith, e))
own NotEnabled = (λ e. omega (arith, e), λ e. omega (arith, e))
own NotAllowed = (λ e. omega (arith, e), λ e. omega (arith, e))
own NoChannel = (λ e. omega (arith, e), λ e. omega (arith, e))
own NotFinite = (λ e. omega (arith, e), λ e. omega (arith, e))
own ImageLength = (λ e. omega (arith, e), λ e. omega (arith, e))
own ImageCounts = (λ e. omega (arith, e), λ e. omega (arith, e))
own ImageSum = (λ e. omega (arith, e), λ e. omega (arith, e))
own ImageValues = (λ e. omega (arith, e), λ e. omega (arith, e))
own NoRoom = (λ e. omega (arith, e), λ e. omega (arith, e))
own NoTable = (λ e. omega (arith, e), λ e. omega (arith, e))
own NotMinute = (λ e. omega (arith, e), λ e. omega (arith, e))
own TooManyWindows = (λ e. omega (arith, e), λ e. omega (arith, e))

litres-asked : (k : ℕ) → 1 ≤ k → k ≤ 10000 → question16 k ≡ true
litres-asked k a b = rw (le-leb 1 k a, le-leb k 10000 b) refl

litres-refused : (k : ℕ) → ((1 ≤ k) × (k ≤ 10000) → ⊥) → question16 k ≡ false
litres-refused k h = go (question16 k) refl
  where
    go : (b : Bool) → question16 k ≡ b → b ≡ false
    go false e = refl
    go true e =
        let (a, b) = both (leb 1 k) (leb k 10000) e in absurd (h (leb-true 1 k a, leb-true k 10000 b))

pub charges : Charges
unfolding charged
charges =
    record {
      more_pulses = λ e l e' l' k t h.
          let a = more (limits_of t) (prices_of t) (litres e l k) (litres e' l' k) 0 (mul-le-mul_right k h) in
          no_less (question16 k) (question17 t) _ _ (omega (arith, a));
      sixteen = λ e l k t h. rw (litres-refused k h) refl;
      seventeen = λ e l k t a b q. rw (litres-asked k a b, q) refl;
      done = λ e l k t a b q. rw (litres-asked k a b, q) refl;
      own_numbers = own;
      held = λ e l k t d.
          let (a, b) = done (question16 k) (question17 t) _ d in
          let (c, f) = both (leb 1 k) (leb k 10000) a in
          let h = litres-held (pulses e l) k (modulo-lt (l -ℤ e) 4294967296 (omega arith)) (leb-true k 10000 f) in
          let ok = accepted t b in
          omega (arith, most (litres e l k) (limits_of t) (prices_of t) h ok.rise ok.cheap);
      adds_up = λ n t q. all-litres (limits_of t) n 0 (upward-rising (limits_of t) (accepted t q).rise) ∙ sub-zero n;
      each_litre = λ n t q. by-litre (limits_of t) (prices_of t) n (upward-rising (limits_of t) (accepted t q).rise);
      nearest = λ s. (omega arith, omega arith);
      one_price = λ e l k p t z q a.
          let ok = accepted t q in
          let prices = one_more t ok z.three z.four in
          let q' : question17 (one_block p) ≡ true = rw (price-fits p (prices_of t) (omega (arith, prices)) ok.cheap a) refl in
          let n = litres e l k in
          let same : hundredths n t ≡ hundredths n (one_block p)
          = one p (limits_of t) (prices_of t) n 0 (upward-rising (limits_of t) ok.rise) prices a ∙ omega arith in
          let of : Bool → ℕ → Charged = λ b x. answered (question16 k) b (rounded x) in
          ap (λ (b : Bool). of b (hundredths n t)) q ∙ ap (of true) same ∙ ap (λ (b : Bool). of b (hundredths n (one_block p))) (sym q');
      past_the_count = λ e l k t u zt zu b ls ps.
          let of : ℕ → List ℕ → List ℕ → Charged
          = λ c xs ys. answered (question16 k) ((leb 1 c && leb c 4) && (rising xs && prices_allowed ys)) (rounded (priced (filled (litres e l k) 0 xs) ys)) in
          let limits : limits_of t ≡ limits_of u
          = same_start (t.blocks - 1) t.limits u.limits (zt.three ∙ sym zu.three) (λ i h. ls i (omega (arith, h)))
          ∙ ap (λ (c : ℕ). take (c - 1) u.limits) b in
          let prices : prices_of t ≡ prices_of u
          = same_start t.blocks t.prices u.prices (zt.four ∙ sym zu.four) ps ∙ ap (λ (c : ℕ). take c u.prices) b in
          ap (λ (c : ℕ). of c (limits_of t) (prices_of t)) b
          ∙ ap (λ (xs : List ℕ). of u.blocks xs (prices_of t)) limits
          ∙ ap (of u.blocks (limits_of u)) prices;
      rises = λ n z. sym (modulo-sub (after_rises n z) z (n % 4294967296) (omega arith) (omega (arith, risen n z)));
    }

-- no pulse costs nothing
pub nothing-charged : (z : ℤ) (k : ℕ) (t : Tariff) → (charged z z k t).cents ≡ 0
unfolding charged
nothing-charged z k t =
    let free : hundredths (litres z z k) t ≡ 0
    = ap (λ (p : ℕ). hundredths (p * k) t) (charges.rises 0 z) ∙ ap (λ (n : ℕ). hundredths n t) (zero-mul k) ∙ nothing-filled (limits_of t) (prices_of t) 0 in
    none (question16 k) (question17 t) (rounded (hundredths (litres z z k) t)) (ap rounded free)
  where
    none : (a b : Bool) (x : ℕ) → x ≡ 0 → (answered a b x).cents ≡ 0
    none true true x e = e
    none true false x e = refl
    none false b x e = refl
