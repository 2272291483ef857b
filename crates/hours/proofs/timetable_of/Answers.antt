use Rattle.std.proofs.Common.{◌≡◌, refl, ◌≤◌, ◌<◌, arith, ◌++◌, length, take, drop}
use native.Mathlib.Numerals.{add-one}
use lib.ListN.{length-take}
use lib.Seq.{length-take-le}
use Rattle.model.specs.Hours.{timetable_of}
use Rattle.hours.proofs.Laws.{taken_next, none_yet, all-taken}
use Rattle.hours.proofs.timetable_of.Goals as goal

pub loop-k-init : goal.loop-k-init
loop-k-init c = rw c.no_windows.ensures (none_yet c.min-count.result 8)

pub loop-k-preserved : goal.loop-k-preserved
loop-k-preserved c =
    let l = c.loop-k in
    let ns = c.args.ns.now in
    let n = c.min-count.result in
    let none = c.no_windows.result.windows in
    let eight : length none ≡ 8 = rw c.no_windows.ensures refl in
    let j : n ≤ 8 = omega (arith, c.min-count.ensures) in
    let long = length-take-le n none (omega (arith, eight, j)) in
    let i : l.k < n = omega (arith, long) in
    let h : l.k < length ns = omega (arith, i, c.min-count.ensures) in
    rw (c.window_of.ensures, l.invariant, add-one) (taken_next n 8 l.k ns h i j)

pub returns : goal.returns
returns c =
    let l = c.loop-k in
    let ns = c.args.ns.now in
    let n = c.min-count.result in
    let none = c.no_windows.result.windows in
    let eight : length none ≡ 8 = rw c.no_windows.ensures refl in
    let j : n ≤ 8 = omega (arith, c.min-count.ensures) in
    let long = length-take-le n none (omega (arith, eight, j)) in
    let m : n ≡ length (take 8 ns) = omega (arith, length-take 8 ns, c.min-count.ensures) in
    let e : l.k ≡ n = omega (arith, long) in
    let w : l.w-items ++ drop n none ≡ (timetable_of ns).windows = rw (l.invariant, c.no_windows.ensures) (all-taken ns l.k n e m) in
    λ i. record { count = m i; windows = w i }
