-- Demand 2, on images, and document 02, Change 1, 10 and 11: what a reached box stores is accepted and powers up to the kept values; an accepted image of 886
-- bytes is stored again as the same bytes, and one of 717 as 886 bytes that power up to the same box.
-- The proof is in proofs/Images.antt.
use Rattle.std.specs.Prelude.{◌≡◌, ◌≢◌, false, ◌||◌, List, [], ◌∷◌, ◌++◌, ℕ, ◌≤◌, T, eqb, length, take, drop, replicate}
use Rattle.std.proofs.Math.Pow.{are_bytes}
use Rattle.model.specs.declared.LevelTable.{LevelTable}
use Rattle.model.specs.declared.Module.{Module}
use Rattle.model.specs.State.{reals_of}
use Rattle.model.specs.Lookup.{zero, pair_of}
use Rattle.model.specs.Image.{Setup, DataKept, setup_of, contents_of, sections, framed, summed, encode, size_right}
use Rattle.model.specs.Calls.{Request, Sort, a_tick, a_read, a_write, a_local_call, sort_of, run, power_up, power_up_answer, store_answer}

-- what the types of the code hold: written bytes are below 256
abbrev pub TypedBy : Sort → Type 0
TypedBy a_tick = Unit {0}
TypedBy (a_read o lent) = Unit {0}
TypedBy (a_write n bs) = T (are_bytes bs)
TypedBy (a_local_call o) = Unit {0}

abbrev pub Typed : List Request → Type 0
Typed [] = Unit {0}
Typed (x ∷ xs) = TypedBy (sort_of x) × Typed xs

-- a box reached by calls from a power-up, accepted or refused
pub record Reached (m : Module) : Type 0 where
  pub image : List ℕ
  pub calls : List Request
  pub bytes : T (are_bytes image)
  pub typed : Typed calls
  pub reached : m ≡ run (power_up image) calls

-- an image is accepted and powers up to the kept values of m
pub record PowersUpTo (m : Module) (img : List ℕ) : Type 0 where
  pub accepted : (power_up_answer img).number ≡ 0
  pub kept : setup_of (power_up img) ≡ setup_of m

-- Change 1, 11: zeros in the data channel
abbrev pub zero_table : LevelTable
zero_table = record { pairs = replicate 10 (pair_of zero zero) }

abbrev pub zero_data : DataKept
zero_data = record { reals = reals_of zero zero; table1 = zero_table; table2 = zero_table }

-- the image of the two sections of document 01, as the box before Change 1 stored it
abbrev pub older_image : Setup → List ℕ
older_image s = summed (framed (take 2 sections) (take 2 (contents_of s)))

-- such an image is accepted and powers up to the kept values of m, with zeros in the data channel
pub record LoadsWithZeros (m : Module) (img : List ℕ) : Type 0 where
  pub accepted : (power_up_answer img).number ≡ 0
  pub module_config : (setup_of (power_up img)).module_config ≡ (setup_of m).module_config
  pub wd_preset : (setup_of (power_up img)).wd_preset ≡ (setup_of m).wd_preset
  pub entries : (setup_of (power_up img)).entries ≡ (setup_of m).entries
  pub zeros : (setup_of (power_up img)).data_kept ≡ zero_data

pub record Images : Type 0 where
  -- question 10, by Change 1, 10 and 11: the lengths that an image has
  pub lengths : (img : List ℕ) → size_right img ≡ (eqb (length img) 717 || eqb (length img) 886)
  -- Change 1, 11: an accepted image of 886 bytes is stored again as the same bytes
  pub again : (img : List ℕ) → T (are_bytes img) → length img ≡ 886 → (power_up_answer img).number ≡ 0 → encode (setup_of (power_up img)) ≡ img
  -- an accepted image of either length is stored as 886 bytes, and these power up to the same box
  pub renewed : (img : List ℕ) → T (are_bytes img) → (power_up_answer img).number ≡ 0 →
      (length (encode (setup_of (power_up img))) ≡ 886) × (power_up (encode (setup_of (power_up img))) ≡ power_up img)
  -- an accepted image of 717 bytes has zeros in the data channel
  pub shorter : (img : List ℕ) → length img ≡ 717 → (power_up_answer img).number ≡ 0 → (setup_of (power_up img)).data_kept ≡ zero_data
  -- what the box before Change 1 could have stored, 717 bytes, is accepted
  pub older : (m : Module) → Reached m → (length (older_image (setup_of m)) ≡ 717) × LoadsWithZeros m (older_image (setup_of m))
  -- a refused power-up has zeros in the data channel
  pub refused : (img : List ℕ) → (power_up_answer img).number ≢ 0 → (setup_of (power_up img)).data_kept ≡ zero_data
  -- storing a reached box answers 0 and 886, and puts its image over the first 886 bytes of a buffer that has them
  pub written : (m : Module) → Reached m → (lent : List ℕ) → 886 ≤ length lent →
      store_answer m lent
      ≡ record { number = 0; length = 886; buffer = encode (setup_of m) ++ drop 886 lent; data_error = false; general_error = false; real_bits = 0 }
  -- and that image powers up to what it was stored from
  pub back : (m : Module) → Reached m → (lent : List ℕ) → 886 ≤ length lent → PowersUpTo m (take 886 (store_answer m lent).buffer)
