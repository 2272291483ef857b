-- The bytes of a register on their way to the lent buffer. Definitions only.
use Rattle.std.specs.Prelude.{List, ◌++◌, ℕ, ◌-◌, length, replicate}
use Rattle.reads.specs.declared.buffer.RegisterBytes.{RegisterBytes}

-- the size of the largest register but the level tables, which go to the buffer pair by pair
abbrev pub width : ℕ
width = 12

-- the bytes first, and every place past them 0
unfoldable pub held : List ℕ → RegisterBytes
held bs = record { bytes = bs ++ replicate (width - length bs) 0; len = length bs }
