-- What question 17 says of a tariff. Assumes nothing.
use mathlib.Core.Path.{◌≡◌}
use mathlib.Core.Bool.{true, ◌&&◌}
use Prim.Native.Nat.{suc, ◌-◌, ◌≤◌}
use native.Mathlib.Omega.{arith}
use lib.Dec.{leb}
use lib.ListN.{length, length-take}
use borrow.Author.Tests.{leb-true}
use Rattle.model.proofs.Laws.Tests.{both}
use Rattle.charge.specs.declared.Tariff.{Tariff}
use Rattle.charge.specs.Charge.{limits_of, prices_of, rising, prices_allowed, question17}

pub record Accepted (t : Tariff) : Type 0 where
  pub some : 1 ≤ t.blocks
  pub few : t.blocks ≤ 4
  pub rise : rising (limits_of t) ≡ true
  pub cheap : prices_allowed (prices_of t) ≡ true

pub accepted : (t : Tariff) → question17 t ≡ true → Accepted t
accepted t e =
    let (p, q) = both (leb 1 t.blocks && leb t.blocks 4) (rising (limits_of t) && prices_allowed (prices_of t)) e in
    let (a, b) = both (leb 1 t.blocks) (leb t.blocks 4) p in
    let (r, s) = both (rising (limits_of t)) (prices_allowed (prices_of t)) q in
    record { some = leb-true 1 t.blocks a; few = leb-true t.blocks 4 b; rise = r; cheap = s }

-- a price for each block, and a limit for each but the last
pub one_more : (t : Tariff) → Accepted t → length t.limits ≡ 3 → length t.prices ≡ 4 → length (prices_of t) ≡ suc (length (limits_of t))
one_more t a l p =
    rw (length-take t.blocks t.prices, length-take (t.blocks - 1) t.limits, l, p) (omega (arith, a.some, a.few))
