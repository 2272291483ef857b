-- The windows of a call, as a loop takes them from the first to the last, over zeros. Assumes nothing.
use mathlib.Core.Path.{◌≡◌, refl, ap}
use mathlib.Core.List.{List, [], ◌∷◌, ◌++◌, map}
use Prim.Native.Nat.{ℕ, zero, suc, ◌≤◌, ◌<◌}
use native.Mathlib.Omega.{arith}
use native.Mathlib.Nat.{le_of_suc-le-suc, not-suc-le-zero}
use lib.ListN.{length, get_or, set, take, drop, replicate}
use Rattle.model.specs.declared.Window.{Window}
use Rattle.model.specs.Hours.{window_of, timetable_of}

zeros : (j q : ℕ) → j ≤ q → take {A = ℕ} j (replicate q 0) ≡ take j (replicate (suc q) 0)
zeros zero q h = refl
zeros (suc j) zero h = absurd (not-suc-le-zero h)
zeros (suc j) (suc q) h = ap (λ (l : List ℕ). 0 ∷ l) (zeros j q (le_of_suc-le-suc h))

pub taken_next : (j q k : ℕ) (ns : List ℕ) → k < length ns → k < j → j ≤ q →
    set (map window_of (take j (take k ns ++ replicate q 0))) k (window_of (get_or ns k 0)) ≡ map window_of (take j (take (suc k) ns ++ replicate q 0))
taken_next j q k [] h i l = absurd (not-suc-le-zero h)
taken_next zero q k (n ∷ ns) h i l = absurd (not-suc-le-zero i)
taken_next (suc j) zero k (n ∷ ns) h i l = absurd (not-suc-le-zero l)
taken_next (suc j) (suc q) zero (n ∷ ns) h i l = ap (λ (z : List ℕ). window_of n ∷ map window_of z) (zeros j q (le_of_suc-le-suc l))
taken_next (suc j) (suc q) (suc k) (n ∷ ns) h i l =
    ap (λ (z : List Window). window_of n ∷ z) (taken_next j (suc q) k ns (le_of_suc-le-suc h) (le_of_suc-le-suc i) (omega arith))

-- none is taken yet
pub none_yet : (j q : ℕ) → take {A = Window} j (replicate q (record { start = 0; end = 0 })) ≡ map window_of (take j (replicate q 0))
none_yet zero q = refl
none_yet (suc j) zero = refl
none_yet (suc j) (suc q) = ap (λ (ws : List Window). record { start = 0; end = 0 } ∷ ws) (none_yet j q)

zeros-after : (q p : ℕ) → q ≤ p → replicate {A = Window} q (record { start = 0; end = 0 }) ≡ map window_of (take q (replicate p 0))
zeros-after zero p h = refl
zeros-after (suc q) zero h = absurd (not-suc-le-zero h)
zeros-after (suc q) (suc p) h = ap (λ (ws : List Window). record { start = 0; end = 0 } ∷ ws) (zeros-after q p (le_of_suc-le-suc h))

-- all that have room, and zeros after them
all_of : (q p : ℕ) (ns : List ℕ) → q ≤ p →
    map window_of (take (length (take q ns)) (take (length (take q ns)) ns ++ replicate p 0)) ++ drop (length (take q ns)) (replicate q (record { start = 0; end = 0 }))
    ≡ map window_of (take q (ns ++ replicate p 0))
all_of zero p ns h = refl
all_of (suc q) p [] h = zeros-after (suc q) p h
all_of (suc q) p (n ∷ ns) h = ap (λ (ws : List Window). window_of n ∷ ws) (all_of q p ns (omega (arith, h)))

pub all-taken : (ns : List ℕ) (k c : ℕ) → k ≡ c → c ≡ length (take 8 ns)
    → map window_of (take c (take k ns ++ replicate 8 0)) ++ drop c (replicate 8 (record { start = 0; end = 0 })) ≡ (timetable_of ns).windows
all-taken ns k c e n = rw (e, n) (all_of 8 8 ns (omega arith))
