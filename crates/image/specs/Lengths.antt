-- Where a section of the image stands, and an image of a known length, as the functions after question 10 ask for it. Definitions only.
use Rattle.std.specs.Prelude.{◌≡◌, true, List, ℕ, ◌≤◌, length, take}
use Rattle.model.specs.Image.{sections, sum_place, length_of, size_right}

-- section i stands, after its count, where the sum of the sections before it would
abbrev pub place_of : ℕ → ℕ
place_of i = sum_place (take i sections)

-- question 10 is answered by yes; so the image is at least as long as the oldest
pub record KnownLength (img : List ℕ) : Type 0 where
  pub right : size_right img ≡ true
  pub least : length_of 2 ≤ length img
