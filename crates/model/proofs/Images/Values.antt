-- The values of an image one by one: what each range is, and how each comes back from its bytes and its bytes from it. Assumes nothing.
use mathlib.Core.Path.{◌≡◌, refl, ◌∙◌, subst}
use mathlib.Core.Bool.{not}
use mathlib.Core.List.{List}
use Prim.Native.Nat.{ℕ, ◌%◌, ◌^◌, ◌<◌}
use native.Mathlib.Nat.{mod-eq_of_lt}
use native.Mathlib.Omega.{arith}
use lib.Dec.{T, lt→ltb}
use lib.IntN.{ℤ, pos}
use lib.ListN.{length}
use lib.Pow.{are_bytes}
use lib.Ieee.{Float, nan, inf, fin, binary32, fits, is_nan, le, of_int}
use mir.Syntax.{w32}
use mir.Val.{SFits}
use Rattle.integers.specs.Integers.{modulo, wrapped}
use Rattle.integers.specs.Bytes.{number, bytes_of, signed_number, signed_bytes}
use Rattle.integers.proofs.Claims.{wrapped-claim, come-back}
use Rattle.integers.proofs.Laws.Bytes.{number-bytes, number_lt}
use Rattle.numbers.specs.Reals.{real_from, real_bytes}
use Rattle.numbers.specs.Written.{from, limit_allowed}
use Rattle.numbers.proofs.Claims as Reals
use Rattle.model.specs.Image.{preset_count_allowed}

-- ---- counts: signed numbers of four bytes
-- four bytes below 256 are below 2 ^ 32
pub number_fits : (bs : List ℕ) → length bs ≡ 4 → T (are_bytes bs) → number bs < 2 ^ 32
number_fits bs e t = subst (λ (k : ℕ). number bs < 256 ^ k) e (number_lt bs t)

-- the signed number of four bytes has 32 bits
pub signed-fits : (bs : List ℕ) → length bs ≡ 4 → T (are_bytes bs) → SFits w32 (signed_number bs)
unfolding signed_number wrapped modulo
signed-fits bs e t = rw e (rw (mod-eq_of_lt (number_fits bs e t)) at (wrapped-claim.held w32 (pos (number bs))))

-- its bytes are those four
pub signed-again : (bs : List ℕ) → length bs ≡ 4 → T (are_bytes bs) → signed_bytes 4 (signed_number bs) ≡ bs
signed-again bs e t = rw e at (come-back.signed_bytes_lem w32 bs (rw e) t)

-- a number of 32 bits comes back from its four bytes
pub signed_back : (z : ℤ) → SFits w32 z → signed_number (signed_bytes 4 z) ≡ z
signed_back z F = come-back.signed_numbers w32 4 refl z F

-- the bytes of the unsigned number of four bytes are those four
pub number-again : (bs : List ℕ) → length bs ≡ 4 → T (are_bytes bs) → bytes_of 4 (number bs) ≡ bs
number-again bs e t = rw e at (come-back.bytes bs t)

-- a preset's count: 32 bits, and bytes that an image may hold
pub record Preset (z : ℤ) : Type 0 where
  pub fits : SFits w32 z
  pub allowed : T (preset_count_allowed (signed_bytes 4 z))

-- four allowed bytes give one
pub preset-from : (bs : List ℕ) → length bs ≡ 4 → T (are_bytes bs) → T (preset_count_allowed bs) → Preset (signed_number bs)
preset-from bs e t a = record { fits = signed-fits bs e t; allowed = rw (signed-again bs e t) a }

-- and so does a whole number below 2 ^ 31
pub preset-count : (z : ℤ) (n : ℕ) → z ≡ pos n → n < 2 ^ 31 → Preset z
unfolding signed_bytes modulo
preset-count z n e h =
    let m : number (bytes_of 4 (n % 2 ^ 32)) ≡ n = number-bytes 4 (n % 2 ^ 32) ∙ omega arith in
    rw e (record { fits = record { sfits = h }; allowed = rw m (lt→ltb n 2147483648 h) })

-- ---- limits of the current: Reals of 32 bits from 0 to 1
pub record Limit (x : Float) : Type 0 where
  pub real : T (fits binary32 x)
  pub allowed : T (limit_allowed x)

-- none is a NaN
limit-no-nan : (x : Float) → T (limit_allowed x) → T (not (is_nan x))
unfolding from le of_int is_nan
limit-no-nan nan t = t
limit-no-nan (inf s) t = tt
limit-no-nan (fin s m e) t = tt

-- four allowed bytes make one
pub limit-from : (bs : List ℕ) → T (limit_allowed (real_from bs)) → Limit (real_from bs)
limit-from bs t = record { real = (Reals.writes-held).wire bs; allowed = t }

-- and are its bytes again
pub limit-again : (bs : List ℕ) → length bs ≡ 4 → T (are_bytes bs) → T (limit_allowed (real_from bs)) → real_bytes (real_from bs) ≡ bs
limit-again bs e t a = (Reals.come-back).bytes bs e t (limit-no-nan (real_from bs) a)

-- it comes back from its bytes
pub limit-back : (x : Float) → Limit x → real_from (real_bytes x) ≡ x
limit-back x h = (Reals.come-back).reals x h.real
