-- What a caller of the copies needs: the bytes that a register's record holds, and that no register is wider than it. Assumes nothing.
use mathlib.Core.Path.{◌≡◌, refl, ap, ◌∙◌}
use mathlib.Core.List.{List}
use Prim.Native.Nat.{ℕ, ◌-◌, ◌≤◌}
use native.Mathlib.Omega.{arith}
use lib.ListN.{length, take, replicate}
use lib.Seq.{take-append_seam}
use Rattle.model.specs.declared.ServiceRegister.{ServiceRegister}
use Rattle.model.specs.declared.DigitalRegister.{DigitalRegister}
use Rattle.model.specs.declared.CommonRegister.{CommonRegister}
use Rattle.model.specs.declared.ServiceRegister.TheVariants.{Highest, Reset, FreeRunTimer, WDTimer, ModuleConfig, WDPreset, WriteEnable, CommonError}
use Rattle.model.specs.declared.DigitalRegister.TheVariants.{FlagReg, OutTimer, Counter, OutCurrent, OperatingTime, UserBytes, FBTimer, FBPreset, OutPreset}
use Rattle.model.specs.declared.DigitalRegister.TheVariants.{ChConfig, MinCurrent, MaxCurrent, UserReals, Maintenance, ChError}
use Rattle.model.specs.declared.CommonRegister.TheVariants.{OutFlags, InFlags, IOChError, ChError as CommonChError}
use Rattle.model.specs.Registers.{service_row, digital_row, common_row}
use Rattle.model.specs.Calls.{overwritten}
use Rattle.reads.specs.declared.buffer.RegisterBytes.{RegisterBytes}
use Rattle.reads.specs.Held.{width, held}

-- the register's own bytes are found again
pub held_bytes : (bs : List ℕ) → take (held bs).len (held bs).bytes ≡ bs
unfolding held
held_bytes bs = take-append_seam bs (replicate (width - length bs) 0)

pub held-length : (bs : List ℕ) → (held bs).len ≡ length bs
unfolding held
held-length bs = refl

-- no register is wider than the width
pub service-fits : (r : ServiceRegister) → (service_row r).size ≤ width
service-fits Highest = omega arith
service-fits Reset = omega arith
service-fits FreeRunTimer = omega arith
service-fits WDTimer = omega arith
service-fits ModuleConfig = omega arith
service-fits WDPreset = omega arith
service-fits WriteEnable = omega arith
service-fits CommonError = omega arith

pub digital-fits : (r : DigitalRegister) → (digital_row r).size ≤ width
digital-fits FlagReg = omega arith
digital-fits OutTimer = omega arith
digital-fits Counter = omega arith
digital-fits OutCurrent = omega arith
digital-fits OperatingTime = omega arith
digital-fits UserBytes = omega arith
digital-fits FBTimer = omega arith
digital-fits FBPreset = omega arith
digital-fits OutPreset = omega arith
digital-fits ChConfig = omega arith
digital-fits MinCurrent = omega arith
digital-fits MaxCurrent = omega arith
digital-fits UserReals = omega arith
digital-fits Maintenance = omega arith
digital-fits ChError = omega arith

pub common-fits : (r : CommonRegister) → (common_row r).size ≤ width
common-fits OutFlags = omega arith
common-fits InFlags = omega arith
common-fits IOChError = omega arith
common-fits CommonChError = omega arith

-- so its bytes are copied to a buffer that has room for its row
pub copies : (b : RegisterBytes) (lent : List ℕ) (n : ℕ) → b.len ≡ n → n ≤ width → n ≤ length lent → (b.len ≤ width) × (b.len ≤ length lent)
copies b lent n e fits room = (rw e fits, rw e room)

-- and a buffer with the bytes that are held has the register's
pub copied : (b : RegisterBytes) (bs lent : List ℕ) → b ≡ held bs → overwritten (take b.len b.bytes) lent ≡ overwritten bs lent
copied b bs lent e = ap (λ (t : RegisterBytes). overwritten (take t.len t.bytes) lent) e ∙ ap (λ (l : List ℕ). overwritten l lent) (held_bytes bs)

-- bytes that are held have their length
pub held-size : (b : RegisterBytes) (bs : List ℕ) (n : ℕ) → b ≡ held bs → length bs ≡ n → b.len ≡ n
held-size b bs n e l = ap (λ (h : RegisterBytes). h.len) e ∙ held-length bs ∙ l
