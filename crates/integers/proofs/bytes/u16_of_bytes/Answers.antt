use Rattle.std.proofs.Common.{rules, ◌≡◌, ◌∙◌, arith, ℕ, ◌+◌, ◌*◌, length, List, [], ◌∷◌}
use Rattle.std.specs.List.{slice_index}
use Rattle.integers.specs.Bytes.{number}
use Rattle.integers.proofs.bytes.u16_of_bytes.Goals as goal

worth : (b : List ℕ) → length b ≡ 2 → slice_index b 0 * 256 + slice_index b 1 ≡ number b
unfolding number
worth [] e = omega (arith, e)
worth (x ∷ []) e = omega (arith, e)
worth (x ∷ y ∷ []) e = omega arith
worth (x ∷ y ∷ z ∷ b) e = omega (arith, e)

pub returns : goal.returns
returns c = let e : length c.args.b ≡ 2 = search rules in c.from_be_bytes.ensures ∙ worth c.args.b e
