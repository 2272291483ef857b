-- A code's parts are found again: by the two bits, then arithmetic. Assumes nothing.
use mathlib.Core.Path.{◌≡◌}
use mathlib.Core.Bool.{Bool, true, false, cond}
use Prim.Native.Nat.{ℕ, ◌/◌, ◌%◌, ◌<◌}
use native.Mathlib.Omega.{arith}
use Rattle.pd3120_c.specs.Codes.{packed, packed_level, Unpacks}

number : (n s : ℕ) (d g : Bool) → n < 256 → packed n s d g % 256 ≡ n
number n s true true h = omega (arith, h)
number n s true false h = omega (arith, h)
number n s false true h = omega (arith, h)
number n s false false h = omega (arith, h)

size : (n s : ℕ) (d g : Bool) → n < 256 → s < 65536 → packed n s d g / 256 % 65536 ≡ s
size n s true true h k = omega (arith, h, k)
size n s true false h k = omega (arith, h, k)
size n s false true h k = omega (arith, h, k)
size n s false false h k = omega (arith, h, k)

data_error : (n s : ℕ) (d g : Bool) → n < 256 → s < 65536 → packed n s d g / 16777216 % 2 ≡ cond d 1 0
data_error n s true true h k = omega (arith, h, k)
data_error n s true false h k = omega (arith, h, k)
data_error n s false true h k = omega (arith, h, k)
data_error n s false false h k = omega (arith, h, k)

general_error : (n s : ℕ) (d g : Bool) → n < 256 → s < 65536 → packed n s d g / 33554432 ≡ cond g 1 0
general_error n s true true h k = omega (arith, h, k)
general_error n s true false h k = omega (arith, h, k)
general_error n s false true h k = omega (arith, h, k)
general_error n s false false h k = omega (arith, h, k)

level_number : (n b : ℕ) → b < 4294967296 → packed_level n b / 4294967296 ≡ n
level_number n b h = omega (arith, h)

level_bits_lem : (n b : ℕ) → b < 4294967296 → packed_level n b % 4294967296 ≡ b
level_bits_lem n b h = omega (arith, h)

pub unpacks : Unpacks
unpacks =
    record {
      number = number;
      size = size;
      data_error = data_error;
      general_error = general_error;
      level_number = level_number;
      level_bits_lem = level_bits_lem;
    }
