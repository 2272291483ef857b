-- Document 01, Registers, and document 02, Change 1, 2 and 12: the table as one fact over every SWNo, with each register's access and size. The proof is in
-- proofs/Listed.antt.
use Rattle.std.specs.Prelude.{◌≡◌, List, [], ◌∷◌, ◌++◌, map, ℕ, zero, suc, ◌*◌, ◌≤◌, replicate}
use Rattle.model.specs.declared.Access.{Access}
use Rattle.model.specs.declared.Access.TheVariants.{ReadOnly, Writable, Protected}
use Rattle.model.specs.declared.ServiceRegister.TheVariants.{Highest, Reset, FreeRunTimer, WDTimer, ModuleConfig, WDPreset, WriteEnable, CommonError}
use Rattle.model.specs.declared.DigitalRegister.TheVariants.{FlagReg, OutTimer, Counter, OutCurrent, OperatingTime, UserBytes, FBTimer}
use Rattle.model.specs.declared.DigitalRegister.TheVariants.{FBPreset, OutPreset, ChConfig, MinCurrent, MaxCurrent, UserReals, Maintenance, ChError}
use Rattle.model.specs.declared.CommonRegister.TheVariants.{OutFlags, InFlags, IOChError, ChError as CommonChError}
use Rattle.model.specs.declared.DataRegister.TheVariants.{RealA, RealB, TimerA, TimerB, LookUp1, LookUp2}
use Rattle.model.specs.Registers.{Place, service, digital, common, data_channel, unlisted, place, access, size}

-- what the table says of a SWNo
pub record Shown : Type 0 where
  pub place : Place
  pub access : Access
  pub size : ℕ

abbrev pub shown_at : ℕ → Shown
shown_at n = record { place = place n; access = access (place n); size = size (place n) }

-- n numbers from i on
abbrev pub numbers : ℕ → ℕ → List ℕ
numbers i zero = []
numbers i (suc n) = i ∷ numbers (suc i) n

-- the sixteen SWNos of a channel
abbrev pub shown_of : ℕ → List Shown
shown_of k = map shown_at (numbers (k * 0x10) 0x10)

-- ---- the table written out, from register 0 to register $F
abbrev pub R : Place → ℕ → Shown
R p n = record { place = p; access = ReadOnly; size = n }

abbrev pub W : Place → ℕ → Shown
W p n = record { place = p; access = Writable; size = n }

abbrev pub P : Place → ℕ → Shown
P p n = record { place = p; access = Protected; size = n }

abbrev pub none : Shown
none = R unlisted 0

abbrev pub service_table : List Shown
service_table =
    R (service Highest) 2 ∷ none ∷ none ∷ W (service Reset) 1 ∷ none ∷ none ∷ none ∷ R (service FreeRunTimer) 4
    ∷ W (service WDTimer) 4 ∷ P (service ModuleConfig) 4 ∷ P (service WDPreset) 4 ∷ none ∷ none ∷ W (service WriteEnable) 1 ∷ none ∷ W (service CommonError) 12 ∷ []

abbrev pub digital_table : ℕ → List Shown
digital_table k =
    let r = digital k in
    W (r FlagReg) 1 ∷ W (r OutTimer) 4 ∷ W (r Counter) 4 ∷ W (r OutCurrent) 4 ∷ W (r OperatingTime) 4 ∷ W (r UserBytes) 4 ∷ W (r FBTimer) 4
    ∷ P (r FBPreset) 4 ∷ P (r OutPreset) 4 ∷ P (r ChConfig) 4 ∷ P (r MinCurrent) 4 ∷ P (r MaxCurrent) 4 ∷ P (r UserReals) 8 ∷ P (r Maintenance) 4 ∷ none
    ∷ R (r ChError) 4 ∷ []

abbrev pub common_table : List Shown
common_table =
    W (common OutFlags) 2 ∷ W (common InFlags) 2 ∷ R (common IOChError) 4 ∷ none ∷ none ∷ none ∷ none ∷ none
    ∷ none ∷ none ∷ none ∷ none ∷ none ∷ none ∷ none ∷ R (common CommonChError) 4 ∷ []

abbrev pub data_table : List Shown
data_table =
    let r = data_channel in
    W (r RealA) 4 ∷ W (r RealB) 4 ∷ none ∷ none ∷ none ∷ none ∷ none ∷ none
    ∷ none ∷ none ∷ W (r TimerA) 4 ∷ W (r TimerB) 4 ∷ P (r LookUp1) 80 ∷ P (r LookUp2) 80 ∷ none ∷ none ∷ []

pub record Listed : Type 0 where
  -- every SWNo of channels 0 to $13
  pub all : map shown_of (numbers 0 20) ≡ service_table ∷ (map digital_table (numbers 1 16) ++ (common_table ∷ replicate 16 none ∷ data_table ∷ []))
  -- and every other
  pub beyond : (n : ℕ) → 0x140 ≤ n → place n ≡ unlisted
