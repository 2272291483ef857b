-- Bytes written over a buffer, one piece after another. Assumes nothing.
use mathlib.Core.Path.{◌≡◌, sym, ap, ◌∙◌}
use mathlib.Core.List.{List, [], ◌++◌, append_assoc}
use Prim.Native.Nat.{ℕ, ◌+◌, ◌≤◌}
use native.Mathlib.Omega.{arith}
use native.Mathlib.Nat.{zero-add}
use lib.ListN.{length, take, drop, length-take, length-drop, length-append, take-append-drop}
use lib.Seq.{drop-drop, take_at, length-take-le, drop-append-add}
use Rattle.buffers.specs.Pasted.{pasted}

-- nothing written leaves the buffer
pub pasted-none : (d : List ℕ) (at : ℕ) → pasted d at [] ≡ d
unfolding pasted
pasted-none d at = let e : at + 0 ≡ at = omega arith in rw e (take-append-drop at d)

-- and writing keeps its length
pub pasted_length : (d : List ℕ) (at : ℕ) (b : List ℕ) → at + length b ≤ length d → length (pasted d at b) ≡ length d
unfolding pasted
pasted_length d at b h = simp (length-append, length-take, length-drop) (omega arith)

-- a piece next to what was written before makes one piece with it
pub pasted-twice : (d : List ℕ) (at : ℕ) (a : List ℕ) (from : ℕ) (b : List ℕ) → at + length a ≡ from → from + length b ≤ length d → pasted
    (pasted d at a) from b ≡ pasted d at (a ++ b)
unfolding pasted
pasted-twice d at a from b e h =
    let x = drop from d in
    let head : length (take at d ++ a) ≡ from = length-append (take at d) a ∙ omega (arith, length-take-le at d (omega arith)) in
    let group : take at d ++ (a ++ x) ≡ (take at d ++ a) ++ x = sym (append_assoc (take at d) a x) in
    let front : take from (take at d ++ (a ++ x)) ≡ take at d ++ a = ap (take from) group ∙ take_at (take at d ++ a) x from head in
    let back : drop (from + length b) (take at d ++ (a ++ x)) ≡ drop (from + length b) d =
    ap (drop (from + length b)) group
    ∙ ap (λ (n : ℕ). drop (n + length b) ((take at d ++ a) ++ x)) (sym head)
    ∙ drop-append-add (take at d ++ a) x (length b)
    ∙ drop-drop (length b) from d in
    let ends : at + length (a ++ b) ≡ from + length b = ap (λ (n : ℕ). at + n) (length-append a b) ∙ omega arith in
    rw (e, ends, front, back) (simp append_assoc)

-- the same, step by step: b is d with a written over it, and c is b with x
pub pasted-next : {b c : List ℕ} (d : List ℕ) (at : ℕ) (a : List ℕ) (from : ℕ) (x : List ℕ) → b ≡ pasted d at a → c ≡ pasted b from x → at + length a ≡ from
    → from + length x ≤ length d
    → c ≡ pasted d at (a ++ x)
pasted-next d at a from x e f g h = f ∙ ap (λ (l : List ℕ). pasted l from x) e ∙ pasted-twice d at a from x g h

-- and with the lengths: a, n bytes, was written, and then x, k bytes
pub pasted-on : {b c : List ℕ} {n k : ℕ} (d : List ℕ) (at : ℕ) (a x : List ℕ) → (b ≡ pasted d at a) × (length a ≡ n)
    → (c ≡ pasted b (at + n) x) × (length x ≡ k)
    → at + (n + k) ≤ length d
    → (c ≡ pasted d at (a ++ x)) × (length (a ++ x) ≡ n + k)
pasted-on d at a x p q h =
    (pasted-next d at a _ x p.0 q.0 (omega (arith, p.1)) (omega (arith, q.1)), length-append a x ∙ omega (arith, p.1, q.1))

-- the same bytes, written in another way
pub pasted-as : {b a x : List ℕ} {n : ℕ} (d : List ℕ) (at : ℕ) → a ≡ x → (b ≡ pasted d at a) × (length a ≡ n) → (b ≡ pasted d at x) × (length x ≡ n)
pasted-as d at e p = (p.0 ∙ ap (pasted d at) e, ap length (sym e) ∙ p.1)

-- what is written from the start on
pub pasted-start : (d b : List ℕ) → pasted d 0 b ≡ b ++ drop (length b) d
unfolding pasted
pasted-start d b = simp zero-add

-- what was written from the start on stands in front
pub pasted-front : (d b : List ℕ) (n : ℕ) → length b ≡ n → take n (pasted d 0 b) ≡ b
unfolding pasted
pasted-front d b n h = take_at b (drop (0 + length b) d) n h
