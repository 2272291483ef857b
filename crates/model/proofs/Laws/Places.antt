-- What holds of every register that a SWNo can name, each at its own number, holds at the SWNo. Assumes nothing.
use mathlib.Core.Path.{◌≡◌}
use mathlib.Core.List.{List, [], ◌∷◌}
use Prim.Native.Nat.{ℕ, ◌+◌, ◌*◌, ◌/◌, ◌%◌, ◌<◌, ◌≤◌}
use native.Mathlib.Omega.{arith}
use lib.Dec.{eqb}
use borrow.Author.Tests.{eqb-true, ne_eqb, le-leb}
use Rattle.model.specs.declared.ServiceRegister.{ServiceRegister}
use Rattle.model.specs.declared.DigitalRegister.{DigitalRegister}
use Rattle.model.specs.declared.CommonRegister.{CommonRegister}
use Rattle.model.specs.declared.DataRegister.{DataRegister}
use Rattle.model.specs.Settings.{is_digital}
use Rattle.model.specs.Registers.{Row, Place, service, digital, common, data_channel, unlisted, find, place}
use Rattle.model.specs.Registers.{service_row, digital_row, common_row, data_row, service_registers, digital_registers, common_registers, data_registers}
use Rattle.model.proofs.Laws.Tests.{by-test, range}

find_cases : {A : Type 0} (Q : Place → Type 0) (make : A → Place) (row : A → Row) (n : ℕ) (rs : List A) →
    Q unlisted → ((r : A) → n ≡ (row r).number → Q (make r)) → Q (find make row n rs)
find_cases Q make row n [] u h = u
find_cases Q make row n (r ∷ rs) u h = by-test Q (eqb n (row r).number) (λ e. h r (eqb-true _ _ e)) (λ e. find_cases Q make row n rs u h)

pub place-cases : (Q : Place → Type 0) (n : ℕ) → Q unlisted
    → (n / 16 ≡ 0 → (r : ServiceRegister) → n % 16 ≡ (service_row r).number → Q (service r))
    → (n / 16 ≡ 17 → (r : CommonRegister) → n % 16 ≡ (common_row r).number → Q (common r))
    → (n / 16 ≡ 19 → (r : DataRegister) → n % 16 ≡ (data_row r).number → Q (data_channel r))
    → (1 ≤ n / 16 → n / 16 ≤ 16 → (r : DigitalRegister) → n % 16 ≡ (digital_row r).number → Q (digital (n / 16) r)) → Q (place n)
unfolding place
place-cases Q n qu qs qc qv qd =
    by-test Q (eqb (n / 16) 0) (λ e. find_cases Q service service_row (n % 16) service_registers qu (qs (eqb-true _ _ e))) (λ e.
    by-test Q (eqb (n / 16) 17) (λ e₁. find_cases Q common common_row (n % 16) common_registers qu (qc (eqb-true _ _ e₁))) (λ e₁.
    by-test Q (eqb (n / 16) 19) (λ e₂. find_cases Q data_channel data_row (n % 16) data_registers qu (qv (eqb-true _ _ e₂))) (λ e₂.
    by-test Q (is_digital (n / 16)) (λ d. let (p, q) = range (n / 16) d in find_cases Q (digital (n / 16)) digital_row (n % 16) digital_registers qu (qd p q))
    (λ d. qu))))

-- the registers of a digital channel
pub digital-place : (c : ℕ) → 1 ≤ c → c ≤ 16 → (r : ℕ) → r < 16 → place (c * 0x10 + r) ≡ find (digital c) digital_row r digital_registers
unfolding place
digital-place c a b r h =
    let e : (c * 0x10 + r) / 16 ≡ c = omega arith in
    let f : (c * 0x10 + r) % 16 ≡ r = omega arith in
    rw (e, f, ne_eqb c 0 (λ z. omega (arith, z)), ne_eqb c 17 (λ z. omega (arith, z)), ne_eqb c 19 (λ z. omega (arith, z)), le-leb 1 c a, le-leb c 16 b)
