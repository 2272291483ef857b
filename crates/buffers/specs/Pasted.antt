-- Bytes written over a buffer. Definitions only.
use Rattle.std.specs.Prelude.{List, ◌++◌, ℕ, ◌+◌, length, take, drop}

-- bs written over buf from place `at` on
unfoldable pub pasted : List ℕ → ℕ → List ℕ → List ℕ
pasted buf at bs = take at buf ++ (bs ++ drop (at + length bs) buf)
