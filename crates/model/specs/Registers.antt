-- Document 01, Registers 1 and 2, with its lists of registers, and those of document 02, Change 1: the table. Definitions only.
use Rattle.std.specs.Prelude.{cond, List, [], ◌∷◌, ℕ, ◌/◌, ◌%◌, eqb}
use Rattle.model.specs.declared.Access.{Access}
use Rattle.model.specs.declared.ServiceRegister.{ServiceRegister}
use Rattle.model.specs.declared.DigitalRegister.{DigitalRegister}
use Rattle.model.specs.declared.CommonRegister.{CommonRegister}
use Rattle.model.specs.declared.DataRegister.{DataRegister}
use Rattle.model.specs.declared.Access.TheVariants.{ReadOnly, Writable, Protected}
use Rattle.model.specs.declared.ServiceRegister.TheVariants.{Highest, Reset, FreeRunTimer, WDTimer, ModuleConfig, WDPreset, WriteEnable, CommonError}
use Rattle.model.specs.declared.DigitalRegister.TheVariants.{FlagReg, OutTimer, Counter, OutCurrent, OperatingTime, UserBytes, FBTimer, FBPreset}
use Rattle.model.specs.declared.DigitalRegister.TheVariants.{OutPreset, ChConfig, MinCurrent, MaxCurrent, UserReals, Maintenance, ChError}
use Rattle.model.specs.declared.CommonRegister.TheVariants.{OutFlags, InFlags, IOChError, ChError as CommonChError}
use Rattle.model.specs.declared.DataRegister.TheVariants.{RealA, RealB, TimerA, TimerB, LookUp1, LookUp2}
use Rattle.model.specs.Settings.{is_digital}

-- a row of the table: the register's number in its channel, its access (Registers 2) and its size in bytes
pub record Row : Type 0 where
  pub number : ℕ
  pub access : Access
  pub size : ℕ

abbrev pub R : ℕ → ℕ → Row
R n size = record { number = n; access = ReadOnly; size = size }

abbrev pub W : ℕ → ℕ → Row
W n size = record { number = n; access = Writable; size = size }

abbrev pub P : ℕ → ℕ → Row
P n size = record { number = n; access = Protected; size = size }

abbrev pub service_row : ServiceRegister → Row
service_row Highest = R 0x0 2
service_row Reset = W 0x3 1
service_row FreeRunTimer = R 0x7 4
service_row WDTimer = W 0x8 4
service_row ModuleConfig = P 0x9 4
service_row WDPreset = P 0xA 4
service_row WriteEnable = W 0xD 1
service_row CommonError = W 0xF 12

abbrev pub digital_row : DigitalRegister → Row
digital_row FlagReg = W 0x0 1
digital_row OutTimer = W 0x1 4
digital_row Counter = W 0x2 4
digital_row OutCurrent = W 0x3 4
digital_row OperatingTime = W 0x4 4
digital_row UserBytes = W 0x5 4
digital_row FBTimer = W 0x6 4
digital_row FBPreset = P 0x7 4
digital_row OutPreset = P 0x8 4
digital_row ChConfig = P 0x9 4
digital_row MinCurrent = P 0xA 4
digital_row MaxCurrent = P 0xB 4
digital_row UserReals = P 0xC 8
digital_row Maintenance = P 0xD 4
digital_row ChError = R 0xF 4

abbrev pub common_row : CommonRegister → Row
common_row OutFlags = W 0x0 2
common_row InFlags = W 0x1 2
common_row IOChError = R 0x2 4
common_row CommonChError = R 0xF 4

-- Change 1, 2, at the manual's numbers: a table is ten pairs of Reals
abbrev pub data_row : DataRegister → Row
data_row RealA = W 0x0 4
data_row RealB = W 0x1 4
data_row TimerA = W 0xA 4
data_row TimerB = W 0xB 4
data_row LookUp1 = P 0xC 80
data_row LookUp2 = P 0xD 80

abbrev pub service_registers : List ServiceRegister
service_registers = Highest ∷ Reset ∷ FreeRunTimer ∷ WDTimer ∷ ModuleConfig ∷ WDPreset ∷ WriteEnable ∷ CommonError ∷ []

abbrev pub digital_registers : List DigitalRegister
digital_registers =
    FlagReg ∷ OutTimer ∷ Counter ∷ OutCurrent ∷ OperatingTime ∷ UserBytes ∷ FBTimer ∷ FBPreset ∷ OutPreset ∷ ChConfig ∷ MinCurrent ∷ MaxCurrent
    ∷ UserReals ∷ Maintenance ∷ ChError ∷ []

abbrev pub common_registers : List CommonRegister
common_registers = OutFlags ∷ InFlags ∷ IOChError ∷ CommonChError ∷ []

abbrev pub data_registers : List DataRegister
data_registers = RealA ∷ RealB ∷ TimerA ∷ TimerB ∷ LookUp1 ∷ LookUp2 ∷ []

-- what a SWNo names: a register of the service channel, of a digital channel, of the common or of the data channel, or none that is listed
pub data Place : Type 0 where
  service : ServiceRegister → Place
  digital : ℕ → DigitalRegister → Place
  common : CommonRegister → Place
  data_channel : DataRegister → Place
  unlisted : Place

-- the register that has a number, among those of a channel
abbrev pub find : {A : Type 0} → (A → Place) → (A → Row) → ℕ → List A → Place
find place row n [] = unlisted
find place row n (r ∷ rs) = cond (eqb n (row r).number) (place r) (find place row n rs)

-- Registers 1: the parts of a SWNo
abbrev pub channel_of : ℕ → ℕ
channel_of n = n / 0x10

abbrev pub register_of : ℕ → ℕ
register_of n = n % 0x10

-- Service 0 and question 1, by Change 1, 12: the highest SWNo
abbrev pub highest_swno : ℕ
highest_swno = 0x13F

unfoldable pub place : ℕ → Place
place n =
    cond (eqb (channel_of n) 0) (find service service_row (register_of n) service_registers)
    (cond (eqb (channel_of n) 17) (find common common_row (register_of n) common_registers)
    (cond (eqb (channel_of n) 19) (find data_channel data_row (register_of n) data_registers)
    (cond (is_digital (channel_of n)) (find (digital (channel_of n)) digital_row (register_of n) digital_registers) unlisted)))

-- the row of a place. What is not listed has none: R 0 0 stands there, and question 2 refuses it before its row is looked at
abbrev pub row_of : Place → Row
row_of (service r) = service_row r
row_of (digital k r) = digital_row r
row_of (common r) = common_row r
row_of (data_channel r) = data_row r
row_of unlisted = R 0 0

abbrev pub access : Place → Access
access p = (row_of p).access

abbrev pub size : Place → ℕ
size p = (row_of p).size
