-- Document 02, Change 2, in words: a list of calls in which no write of channel c's OperatingTime and no reset is accepted adds to c's operating count the
-- whole part of a fourth of c's quarters and the ticks that find c's InFlag TRUE, wherever these fall; the count stops at 4294967295. So only those two
-- calls, and power-up, lose quarters. `Runs` is that claim, of any box, and the definitions above it are its words. The proof is in proofs/Runs.antt.
use Rattle.std.specs.Prelude.{◌≡◌, Bool, false, cond, ◌&&◌, ◌||◌, List, [], ◌∷◌, ℕ, ◌+◌, ◌*◌, ◌/◌, ◌%◌, ◌≤◌, min, eqb, length}
use Rattle.counts.specs.declared.Operating.{Operating}
use Rattle.counts.specs.Counts.{operating_of, quarters_of}
use Rattle.model.specs.declared.Module.{Module}
use Rattle.model.specs.State.{operating_time, channel_at, in_flag_of, write_enable_of}
use Rattle.model.specs.Registers.{place}
use Rattle.model.specs.Writes.{operating_from}
use Rattle.model.specs.Questions.{accepted, write_reply}
use Rattle.model.specs.Calls.{Request, write, Sort, a_tick, a_read, a_write, a_local_call, sort_of, step, run, power_up}

-- c's operating time
abbrev pub time_of : Module → ℕ → Operating
time_of m c = operating_time (channel_at m c)

-- ---- the ticks of a list, run from m, that find c's InFlag TRUE
abbrev pub ticks_by : Bool → Sort → ℕ
ticks_by on a_tick = cond on 1 0
ticks_by on (a_read o lent) = 0
ticks_by on (a_write n bs) = 0
ticks_by on (a_local_call o) = 0

unfoldable pub ticks_on : ℕ → Module → List Request → ℕ
ticks_on c m [] = 0
ticks_on c m (x ∷ xs) = ticks_by (in_flag_of (channel_at m c)) (sort_of x) + ticks_on c (step m x).box xs

-- ---- whether a list gives c an operating time anew: by a write of c's OperatingTime, or of SWNo 3, that is accepted
abbrev pub gives_by : ℕ → Module → Sort → Bool
gives_by c m a_tick = false
gives_by c m (a_read o lent) = false
gives_by c m (a_write n bs) = (eqb n (c * 0x10 + 0x4) || eqb n 0x3) && accepted (write_reply (write_enable_of m.shared) n (place n) bs)
gives_by c m (a_local_call o) = false

unfoldable pub gives : ℕ → Module → List Request → Bool
gives c m [] = false
gives c m (x ∷ xs) = gives_by c m (sort_of x) || gives c (step m x).box xs

-- ---- of a box m, whose counts have 32 bits as the code's type holds: each fourth quarter counts, and the rest is left over
pub record RunsAddUp (m : Module) : Type 0 where
  pub count : (c : ℕ) → 1 ≤ c → c ≤ 16 → (xs : List Request) → gives c m xs ≡ false → (time_of m c).count.0 ≤ 4294967295 →
      (time_of (run m xs) c).count.0 ≡ min ((time_of m c).count.0 + (quarters_of (time_of m c) + ticks_on c m xs) / 4) 4294967295
  pub quarters : (c : ℕ) → 1 ≤ c → c ≤ 16 → (xs : List Request) → gives c m xs ≡ false →
      quarters_of (time_of (run m xs) c) ≡ (quarters_of (time_of m c) + ticks_on c m xs) % 4

pub record Runs : Type 0 where
  pub add_up : (m : Module) → length m.channels ≡ 16 → RunsAddUp m
  -- a write of OperatingTime gives the count that is written, a reset the kept one, and both no quarters; power-up gives none either
  pub written : (m : Module) → length m.channels ≡ 16 → (c : ℕ) → 1 ≤ c → c ≤ 16 → (bs : List ℕ) → (step m (write (c * 0x10 + 0x4) bs)).answer.number ≡ 0 →
      time_of (step m (write (c * 0x10 + 0x4) bs)).box c ≡ operating_of (operating_from bs)
  pub reset : (m : Module) → length m.channels ≡ 16 → (c : ℕ) → 1 ≤ c → c ≤ 16 →
      time_of (step m (write 0x3 (0xFF ∷ []))).box c ≡ operating_of (channel_at m c).kept.operating
  pub powered_up_lem : (img : List ℕ) (c : ℕ) → 1 ≤ c → c ≤ 16 → (time_of (power_up img) c).quarters ≡ 0
