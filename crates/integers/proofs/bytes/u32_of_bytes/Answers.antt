use Rattle.std.proofs.Common.{rules, ◌≡◌, ◌∙◌, arith, ℕ, ◌+◌, ◌*◌, length, List, [], ◌∷◌}
use Rattle.std.specs.List.{slice_index}
use Rattle.integers.specs.Bytes.{number}
use Rattle.integers.proofs.bytes.u32_of_bytes.Goals as goal

worth : (b : List ℕ) → length b ≡ 4
    → slice_index b 0 * 16777216 + (slice_index b 1 * 65536 + (slice_index b 2 * 256 + slice_index b 3)) ≡ number b
unfolding number
worth [] e = omega (arith, e)
worth (x ∷ []) e = omega (arith, e)
worth (x ∷ y ∷ []) e = omega (arith, e)
worth (x ∷ y ∷ z ∷ []) e = omega (arith, e)
worth (x ∷ y ∷ z ∷ w ∷ []) e = omega arith
worth (x ∷ y ∷ z ∷ w ∷ v ∷ b) e = omega (arith, e)

pub returns : goal.returns
returns c = let e : length c.args.b ≡ 4 = search rules in c.from_be_bytes.ensures ∙ (omega arith) ∙ worth c.args.b e
