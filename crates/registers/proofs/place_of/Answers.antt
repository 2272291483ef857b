use borrow.Author.Tests.{le-leb, lt-leb, ne_eqb}
use Rattle.std.proofs.Common.{arith, ◌≢◌, ◌/◌, ◌≤◌, ◌<◌}
use Rattle.model.specs.Registers.{place}
use Rattle.registers.proofs.place_of.Goals as goal

pub returns-in-0 : goal.returns-in-0
unfolding place
returns-in-0 c = simp c.in-0.is c.service_place.ensures

pub returns-in-17 : goal.returns-in-17
unfolding place
returns-in-17 c = simp c.in-17.is c.common_place.ensures

pub returns-in-19 : goal.returns-in-19
unfolding place
returns-in-19 c = simp c.in-19.is c.data_place.ensures

pub returns-in-1-to-16 : goal.returns-in-1-to-16
unfolding place
returns-in-1-to-16 c =
    let k = c.args.swno / 16 in
    let low : 1 ≤ k = omega arith in
    let high : k ≤ 16 = omega arith in
    let a : k ≢ 0 = omega arith in
    let b : k ≢ 17 = omega arith in
    let d : k ≢ 19 = omega arith in
    simp (ne_eqb k 0 a, ne_eqb k 17 b, ne_eqb k 19 d, le-leb 1 k low, le-leb k 16 high) c.digital_place.ensures

pub returns-in_default : goal.returns-in_default
unfolding place
returns-in_default c =
    let k = c.args.swno / 16 in
    let low : 1 ≤ k = omega arith in
    let high : 16 < k = omega arith in
    let a : k ≢ 0 = omega arith in
    let b : k ≢ 17 = omega arith in
    let d : k ≢ 19 = omega arith in
    simp (ne_eqb k 0 a, ne_eqb k 17 b, ne_eqb k 19 d, le-leb 1 k low, lt-leb k 16 high)
