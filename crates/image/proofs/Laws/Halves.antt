-- An entry's bytes in two halves, each register by register. Assumes nothing.
use mathlib.Core.Path.{◌≡◌, refl}
use mathlib.Core.List.{List, ◌++◌, append_assoc}
use Prim.Native.Nat.{ℕ}
use lib.ListN.{take-append-drop}
use Rattle.integers.specs.Bytes.{bytes_of, signed_bytes}
use Rattle.numbers.specs.Reals.{real_bytes}
use Rattle.model.specs.Reads.{config_bytes}
use Rattle.model.specs.Image.{Entry, entry_bytes}
use Rattle.image.specs.Parts.{first_five, last_five}

-- five pieces, however they are grouped
pub regrouped : (a b c d e : List ℕ) → ((a ++ b) ++ (c ++ d)) ++ e ≡ a ++ (b ++ (c ++ (d ++ e)))
regrouped a b c d e = simp append_assoc

pub first-five : (e : Entry) →
    config_bytes e.config ++ (signed_bytes 4 e.fb_preset.0 ++ (signed_bytes 4 e.out_preset.0 ++ (real_bytes e.min ++ real_bytes e.max)))
    ≡ first_five e
unfolding first_five entry_bytes signed_bytes bytes_of real_bytes
first-five e = refl

pub last-five : (e : Entry) → e.reals ++ (e.maintenance ++ (e.user ++ (signed_bytes 4 e.counter ++ bytes_of 4 e.operating.0))) ≡ last_five e
unfolding last_five entry_bytes signed_bytes bytes_of real_bytes
last-five e = refl

pub halves : (e : Entry) → first_five e ++ last_five e ≡ entry_bytes e
unfolding first_five last_five
halves e = take-append-drop 20 (entry_bytes e)
