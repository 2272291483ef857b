-- The claims of specs/Claims.antt. Assumes nothing.
use mathlib.Core.Path.{◌≡◌, refl, sym, ap, ◌∙◌, subst}
use mathlib.Core.Bool.{Bool, true, false, not, ◌&&◌}
use mathlib.Core.List.{List, [], ◌∷◌}
use Prim.Native.Nat.{ℕ, ◌^◌, ◌<◌}
use native.Mathlib.Nat.{mul-pos}
use native.Mathlib.Omega.{arith}
use lib.Dec.{T}
use lib.ListN.{length}
use lib.Pow.{are_bytes}
use lib.IntN.{ℤ, pos}
use lib.Ieee.{nan, fin, binary32, is_nan, fits, to_bits, of_int}
use lib.Ieee.Bits.{is_true, to_bits-of_bits, of_bits-fits}
use lib.Ieee.Fits.{up_pos}
use Rattle.integers.specs.Bytes.{number, bytes_of}
use Rattle.integers.proofs.Laws.Bytes.{number_lt, bytes-number}
use Rattle.numbers.specs.Reals.{real_from, real_bytes, whole, units_of, count_of}
use Rattle.numbers.specs.Written.{from, below}
use Rattle.numbers.specs.Claims.{ComeBack, Nearest, WritesHeld, BeforeRounding, ReadBack}
use Rattle.numbers.proofs.Laws.Floats.{is-nan}
use Rattle.numbers.proofs.Laws.Inside.{units-inside}
use Rattle.numbers.proofs.Laws.Nearest.{count-nearest, count-even}
use Rattle.numbers.proofs.Laws.Range.{none, timer-fits, preset-count, preset-units, operating-count, operating-fits}
use Rattle.numbers.proofs.Laws.ReadBack.{on-the-wire, count-back, timer-back, preset-back, operating-back, count-24}

-- ---- bytes of Reals
bytes : (bs : List ℕ) → length bs ≡ 4 → T (are_bytes bs) → T (not (is_nan (real_from bs))) → real_bytes (real_from bs) ≡ bs
unfolding real_from real_bytes
bytes bs e t n =
    ap (bytes_of 4) (to_bits-of_bits binary32 (number bs) (subst (λ (k : ℕ). number bs < 256 ^ k) e (number_lt bs t)) n)
    ∙ ap (λ (k : ℕ). bytes_of k (number bs)) (sym e)
    ∙ bytes-number bs t

nan-bytes : real_bytes nan ≡ 0x7F ∷ 0xC0 ∷ 0 ∷ 0 ∷ []
unfolding real_bytes bytes_of to_bits
nan-bytes = refl

not_a_number : (bs : List ℕ) → T (is_nan (real_from bs)) → real_bytes (real_from bs) ≡ 0x7F ∷ 0xC0 ∷ 0 ∷ 0 ∷ []
not_a_number bs t = ap real_bytes (is-nan (real_from bs) (is_true (is_nan (real_from bs)) t)) ∙ nan-bytes

pub come-back : ComeBack
come-back = record { bytes = bytes; reals = on-the-wire; not_a_number = not_a_number }

-- ---- written counts
wire : (bs : List ℕ) → T (fits binary32 (real_from bs))
unfolding real_from
wire bs = of_bits-fits binary32 (number bs)

pub writes-held : WritesHeld
writes-held = record {
  wire = wire;
  inside = units-inside;
  timers = timer-fits;
  presets = λ x F t. (preset-count x t, preset-units x t F);
  operating = λ x F t. operating-fits x t F;
  operating_sign = operating-count;
}

pub nearest : Nearest
nearest = record { nearest = count-nearest; even = count-even }

-- ---- ranges before rounding
module _ (m : ℕ) (e : ℤ) (M : 0 < m) where
  no : T (from (pos 0) (fin true m e)) → ⊥
  unfolding from of_int
  no t = omega (arith, none m e t, mul-pos M (up_pos e))

  not-from : from (pos 0) (fin true m e) ≡ false
  not-from = is-no (from (pos 0) (fin true m e)) no
    where
      is-no : (b : Bool) → (T b → ⊥) → b ≡ false
      is-no true f = absurd (f tt)
      is-no false f = refl

pub before-rounding : BeforeRounding
unfolding count_of units_of whole
before-rounding = record {
  presets = λ m e M. ap (λ (b : Bool). b && below (pos 8388608) (fin true m e)) (not-from m e M);
  operating = λ m e M. ap (λ (b : Bool). b && below (pos 536870912) (fin true m e)) (not-from m e M);
  rounds_to_zero = (refl, refl);
}

pub read_back : ReadBack
read_back = record { back = count-back; timers = timer-back; presets = preset-back; operating = operating-back; written = count-24 }
