-- The claim of specs/Images.antt. An entry's values stand side by side in its bytes, and the entries in the image, so each comes back from where it stands.
-- That needs every value in its range, which is shown of power-up and of each call in turn. Assumes nothing.
pub mod Tests
pub mod Values
pub mod Parts
pub mod Entries
pub mod Sequence
pub mod Sections
pub mod Data
pub mod Whole
pub mod Rules
pub mod Writes
pub mod Boxes
pub mod DataSteps
pub mod Steps
use Rattle.std.specs.Prelude.{Ok, Err}
use mathlib.Core.Path.{◌≡◌, refl, sym, ap, ap₂, subst, ◌∙◌}
use mathlib.Core.Logic.{◌≢◌}
use mathlib.Core.Bool.{Bool, true, false, cond, ◌||◌}
use mathlib.Core.List.{List, [], ◌∷◌, ◌++◌, map}
use Prim.Native.Nat.{ℕ, ◌≤◌}
use lib.Dec.{T, eqb, ltb}
use lib.ListN.{length, take, drop}
use lib.Pow.{are_bytes}
use lib.Seq.{take_at}
use lib.Ieee.{of_bits, of_int}
use borrow.Author.Tests.{le-leb}
use Rattle.integers.specs.Bytes.{number}
use Rattle.numbers.specs.Reals.{real_from}
use Rattle.model.specs.declared.Module.{Module}
use Rattle.model.specs.Questions.{Reply}
use Rattle.model.specs.Image as Image
use Rattle.model.specs.Image.{Entry, Setup, entry_of, setup_of, encode, decode}
use Rattle.model.specs.Restored.{restored, powered_up, zero_setup}
use Rattle.model.specs.Questions.{number_of, power_up_questions, power_up_reply, store_reply}
use Rattle.model.specs.Calls.{Answer, plain_answer, run, power_up, powered_up_as, power_up_answer, stored, store_answer}
use Rattle.model.specs.Images.{Reached, PowersUpTo, zero_data, older_image, LoadsWithZeros, Images}
use Rattle.model.proofs.Laws.Replies.{asked-done}
use Rattle.model.proofs.Images.Whole.{SetupHeld, accepted-held, encode-long, encode-again, decode-back, encode-accepted}
use Rattle.model.proofs.Images.Whole.{older-long, older-accepted, older-back}
use Rattle.model.proofs.Images.Boxes.{setup-held, power-up-valid}
use Rattle.model.proofs.Images.Steps.{run-valid}

-- power-up restores the kept values
restored-entry : (e : Entry) → entry_of (restored e) ≡ e
unfolding restored
restored-entry e = refl

-- and so each entry of a row
restored-entries : (es : List Entry) → map entry_of (map restored es) ≡ es
restored-entries [] = refl
restored-entries (e ∷ es) = ap₂ (λ (x : Entry) (xs : List Entry). x ∷ xs) (restored-entry e) (restored-entries es)

-- and the whole setup
started-setup : (s : Setup) → setup_of (powered_up s) ≡ s
unfolding powered_up
started-setup s = λ i. record {
  module_config = s.module_config;
  wd_preset = s.wd_preset;
  entries = restored-entries
      s.entries i;
  data_kept = s.data_kept;
}

-- an image whose number is 0 has the reply of what is done
done : (img : List ℕ) → (power_up_answer img).number ≡ 0 → power_up_reply img ≡ Ok 0
unfolding power_up_answer power_up_reply
done img e = asked-done (power_up_questions img) 0 e

number-done : (img : List ℕ) → power_up_reply img ≡ Ok 0 → (power_up_answer img).number ≡ 0
unfolding power_up_answer
number-done img e = ap number_of e

-- an accepted image powers up to the setup that it holds
accepted-setup : (img : List ℕ) → power_up_reply img ≡ Ok 0 → setup_of (power_up img) ≡ decode img
unfolding power_up
accepted-setup img e = rw e (started-setup (decode img))

-- and to the box of that setup
accepted-box : (img : List ℕ) → power_up_reply img ≡ Ok 0 → power_up img ≡ powered_up (decode img)
unfolding power_up
accepted-box img e = rw e

-- the setup of a reached box is in its ranges
held : (m : Module) → Reached m → SetupHeld (setup_of m)
held m r =
    subst (λ (b : Module). SetupHeld (setup_of b)) (sym r.reached)
    (setup-held (run (power_up r.image) r.calls) (run-valid (power_up r.image) r.calls r.typed (power-up-valid r.image r.bytes)))

-- the parts of the claim
lengths : (img : List ℕ) → Image.size_right img ≡ (eqb (length img) 717 || eqb (length img) 886)
unfolding Image.size_right Image.version
lengths img = go (eqb (length img) 717) (eqb (length img) 886)
  where
    go : (a b : Bool) → ltb 0 (cond a 2 (cond b 3 0)) ≡ (a || b)
    go true b = refl
    go false true = refl
    go false false = refl

-- an image of 717 bytes holds zeros for the data channel
shorter-data : (img : List ℕ) → length img ≡ 717 → (decode img).data_kept ≡ zero_data
unfolding decode Image.contents Image.version Image.split Image.setup_from Image.kept_from Image.pairs_from real_from number of_bits of_int
shorter-data img l = rw l

shorter : (img : List ℕ) → length img ≡ 717 → (power_up_answer img).number ≡ 0 → (setup_of (power_up img)).data_kept ≡ zero_data
shorter img l e = (λ i. (accepted-setup img (done img e) i).data_kept) ∙ shorter-data img l

again : (img : List ℕ) → T (are_bytes img) → length img ≡ 886 → (power_up_answer img).number ≡ 0 → encode (setup_of (power_up img)) ≡ img
again img t l e = let d = done img e in ap encode (accepted-setup img d) ∙ encode-again img t l d

renewed : (img : List ℕ) → T (are_bytes img) → (power_up_answer img).number ≡ 0 →
    (length (encode (setup_of (power_up img))) ≡ 886) × (power_up (encode (setup_of (power_up img))) ≡ power_up img)
renewed img t e =
    let d = done img e in
    let h = accepted-held img 0 t d in
    let s = accepted-setup img d in (
      ap (λ (u : Setup). length (encode u)) s ∙ encode-long (decode img) h,
      ap (λ (u : Setup). power_up (encode u)) s ∙ accepted-box (encode (decode img)) (encode-accepted (decode img) h)
          ∙ ap powered_up (decode-back (decode img) h) ∙ sym (accepted-box img d),
    )

older : (m : Module) → Reached m → (length (older_image (setup_of m)) ≡ 717) × LoadsWithZeros m (older_image (setup_of m))
older m r =
    let s = setup_of m in
    let ok = older-accepted s (held m r) in
    let e = accepted-setup (older_image s) ok ∙ older-back s (held m r) in (
      older-long s (held m r),
      record {
        accepted = number-done (older_image s) ok;
        module_config = λ i. (e i).module_config;
        wd_preset = λ i. (e i).wd_preset;
        entries = λ i. (e i).entries;
        zeros = λ i. (e i).data_kept;
      },
    )

-- the settings of a refused power-up
zeros : (setup_of (powered_up zero_setup)).data_kept ≡ zero_data
unfolding powered_up Image.decode Image.contents Image.version Image.split Image.setup_from Image.kept_from Image.pairs_from real_from number of_bits of_int
zeros = refl

refused : (img : List ℕ) → (power_up_answer img).number ≢ 0 → (setup_of (power_up img)).data_kept ≡ zero_data
unfolding power_up power_up_answer
refused img h = go (power_up_reply img) h
  where
    go : (r : Reply) → number_of r ≢ 0 → (setup_of (powered_up_as r img)).data_kept ≡ zero_data
    go (Ok n) h' = absurd (h' refl)
    go (Err r) h' = zeros

written : (m : Module) → Reached m → (lent : List ℕ) → 886 ≤ length lent →
    store_answer m lent
    ≡ record { number = 0; length = 886; buffer = encode (setup_of m) ++ drop 886 lent; data_error = false; general_error = false; real_bits = 0 }
unfolding store_answer stored store_reply
written m r lent h =
    let s = setup_of m in
    rw (le-leb 886 (length lent) h)
    (ap (λ (k : ℕ). plain_answer (Ok 886) (encode s ++ drop k lent)) (encode-long s (held m r)))

-- the first 886 bytes of the buffer
stored_bytes : (m : Module) → Reached m → (lent : List ℕ) → 886 ≤ length lent → take 886 (store_answer m lent).buffer ≡ encode (setup_of m)
stored_bytes m r lent h =
    let s = setup_of m in
    ap (λ (a : Answer). take 886 a.buffer) (written m r lent h) ∙ take_at (encode s) (drop 886 lent) 886 (encode-long s (held m r))

back : (m : Module) → Reached m → (lent : List ℕ) → 886 ≤ length lent → PowersUpTo m (take 886 (store_answer m lent).buffer)
back m r lent h =
    let s = setup_of m in
    let e = stored_bytes m r lent h in
    let ok = encode-accepted s (held m r) in
    record {
      accepted = ap (λ (l : List ℕ). (power_up_answer l).number) e ∙ number-done (encode s) ok;
      kept = ap (λ (l : List ℕ). setup_of (power_up l)) e ∙ accepted-setup (encode s) ok ∙ decode-back s (held m r);
    }

-- so such a box powers up again from what it stores
pub stored-power-up : (m : Module) → Reached m → (lent : List ℕ) → 886 ≤ length lent → power_up (take 886 (store_answer m lent).buffer) ≡ powered_up (setup_of m)
unfolding power_up
stored-power-up m r lent h =
    let s = setup_of m in
    ap power_up (stored_bytes m r lent h) ∙ ap (λ (q : Reply). powered_up_as q (encode s)) (encode-accepted s (held m r)) ∙ ap powered_up (decode-back s (held m r))

pub images : Images
images =
    record { lengths = lengths; again = again; renewed = renewed; shorter = shorter; older = older; refused = refused; written = written; back = back }
