-- The whole image: what its sections hold is a setup, and a setup is what they hold; so an accepted image of the length that is stored is stored again as the
-- same bytes, an older one as one that holds the same, and what a setup in its ranges stores is accepted and decodes to that setup. Assumes nothing.
use Rattle.std.specs.Prelude.{Ok}
use mathlib.Core.Path.{◌≡◌, refl, sym, ap, ap₂, ◌∙◌}
use mathlib.Core.List.{List, [], ◌∷◌, ◌++◌, append-nil}
use Prim.Native.Nat.{ℕ, ◌%◌, ◌<◌}
use native.Mathlib.Omega.{arith}
use lib.Dec.{T, eqb→eq, eqb_refl, ltb→lt, lt→ltb}
use lib.ListN.{length, take, drop, length-append, length-drop, take-append-drop}
use lib.Pow.{are_bytes}
use lib.Seq.{take_at, drop_at, take_all}
use lib.Ieee.{of_bits, of_int, le}
use Rattle.integers.specs.Bytes.{number, bytes_of, signed_number, signed_bytes}
use Rattle.integers.proofs.Claims.{come-back}
use Rattle.integers.proofs.Laws.Bytes.{length-bytes}
use Rattle.numbers.specs.Reals.{real_from}
use Rattle.numbers.specs.Written.{from, up_to}
use Rattle.model.specs.Reads.{config_bytes}
use Rattle.model.specs.Image.{Setup, Section, module_bytes, entries_bytes, kept_bytes, contents_of, part, config_from, entries_from, pairs_from, kept_from}
use Rattle.model.specs.Image.{setup_from, config_allowed, module_config_allowed, entry_allowed, pairs_allowed, kept_allowed}
use Rattle.model.specs.Image.{preset_count_allowed, module_allowed, entries_allowed, sections, versions, framed, total, summed, encode, sum_place, length_of}
use Rattle.model.specs.Image.{image_size, version_among, version, own, split, standing, contents, decode, size_right, counts_right, sum_right}
use Rattle.model.specs.Image.{all_allowed, values_allowed}
use Rattle.model.specs.Images.{zero_data, older_image}
use Rattle.model.specs.Questions.{power_up_questions, power_up_reply}
use Rattle.model.proofs.Laws.Replies.{asked-yes, yes-asked}
use Rattle.model.proofs.Images.Tests.{both, join}
use Rattle.model.proofs.Images.Values.{signed-again, signed_back, Preset, preset-from}
use Rattle.model.proofs.Images.Parts.{bytes-part, bytes_drop, part_length, part-more, beside}
use Rattle.model.proofs.Images.Entries.{config-again}
use Rattle.model.proofs.Images.Sections.{Fit, Fine, framed-length, split-framed, counts-framed, split-fit, split-fine, framed-split, fit-more, fine_more}
use Rattle.model.proofs.Images.Sections.{version-length}
use Rattle.model.proofs.Images.Data.{DataHeld, data-again, data-held, data-length, data-back, data-fine}
use Rattle.model.proofs.Images.Sequence.{AllHeld, entries-again, entries-held, entries-count, entries-length, entries-back, entries-allowed}

-- a setup's values in their ranges
pub record SetupHeld (s : Setup) : Type 0 where
  pub config : T (module_config_allowed (config_bytes s.module_config))
  pub preset : Preset s.wd_preset.0
  pub count : length s.entries ≡ 16
  pub entries : AllHeld s.entries
  pub data_kept : DataHeld s.data_kept

-- ---- contents and setup, a line for each section
-- allowed contents are a setup in its ranges
pub from-held : (cs : List (List ℕ)) → Fit sections cs → Fine sections cs → SetupHeld (setup_from cs)
unfolding setup_from module_allowed module_config_allowed
from-held [] f g = absurd f
from-held (a ∷ []) f g = absurd f.1
from-held (a ∷ b ∷ []) f g = absurd f.1.1
from-held (a ∷ b ∷ c ∷ []) f g =
    let m = both (module_config_allowed (part 0 4 a)) (preset_count_allowed (part 4 4 a)) g.1.0 in
    record {
      config = m.0;
      preset = preset-from (part 4 4 a) (part_length 4 4 a (omega (arith, f.0))) (bytes-part 4 4 a g.0) m.1;
      count = entries-count 16 b;
      entries = entries-held 16 b (omega (arith, f.1.0)) g.1.1.0 g.1.1.1.0;
      data_kept = data-held c f.1.1.0 g.1.1.1.1.0 g.1.1.1.1.1.0;
    }
from-held (a ∷ b ∷ c ∷ d ∷ cs) f g = absurd f.1.1.1

-- which holds them
from-again : (cs : List (List ℕ)) → Fit sections cs → Fine sections cs → contents_of (setup_from cs) ≡ cs
unfolding setup_from
from-again [] f g = absurd f
from-again (a ∷ []) f g = absurd f.1
from-again (a ∷ b ∷ []) f g = absurd f.1.1
from-again (a ∷ b ∷ c ∷ []) f g =
    let config = config-again (part 0 4 a) (part_length 0 4 a (omega (arith, f.0))) in
    let preset = signed-again (part 4 4 a) (part_length 4 4 a (omega (arith, f.0))) (bytes-part 4 4 a g.0) in
    let box : config_bytes (config_from (part 0 4 a)) ++ signed_bytes 4 (signed_number (part 4 4 a)) ≡ a =
    beside config preset ∙ part-more 0 4 4 a ∙ take_all 8 a (omega (arith, f.0)) in
    let rows : entries_bytes (entries_from 16 b) ≡ b =
    entries-again 16 b (omega (arith, f.1.0)) g.1.1.0 g.1.1.1.0 ∙ take_all 704 b (omega (arith, f.1.0)) in
    let held = data-again c f.1.1.0 g.1.1.1.1.0 g.1.1.1.1.1.0 in
    λ i. box i ∷ rows i ∷ held i ∷ []
from-again (a ∷ b ∷ c ∷ d ∷ cs) f g = absurd f.1.1.1

module _ (s : Setup) (h : SetupHeld s) where
  rows_long : length (entries_bytes s.entries) ≡ 704
  rows_long = entries-length s.entries h.entries ∙ omega (arith, h.count)

  -- a setup's contents have their sizes
  of-fit : Fit sections (contents_of s)
  unfolding signed_bytes bytes_of
  of-fit = (refl, (rows_long, (data-length s.data_kept h.data_kept, tt)))

  -- are allowed
  of-allowed : T (all_allowed sections (contents_of s))
  unfolding all_allowed module_allowed signed_bytes bytes_of
  of-allowed =
      let rows = rw (h.count, append-nil) at (entries-allowed s.entries [] h.entries) in
      join (module_allowed (module_bytes s)) _ (join (module_config_allowed (config_bytes s.module_config)) _ h.config h.preset.allowed)
      (join (entries_allowed 16 (entries_bytes s.entries)) _ rows
      (join (kept_allowed (kept_bytes s.data_kept)) _ (data-fine s.data_kept h.data_kept) tt))

  -- and give the setup again
  of-back : setup_from (contents_of s) ≡ s
  unfolding setup_from signed_bytes bytes_of
  of-back =
      let preset = signed_back s.wd_preset.0 h.preset.fits in
      let entries : entries_from 16 (entries_bytes s.entries) ≡ s.entries =
      ap (λ (n : ℕ). entries_from n (entries_bytes s.entries)) (sym h.count) ∙ (rw append-nil at (entries-back s.entries [] h.entries)) in
      let held = data-back s.data_kept h.data_kept in
      λ i. record { module_config = s.module_config; wd_preset = record { 0 = preset i }; entries = entries i; data_kept = held i }

-- ---- an accepted image
record Accepted (img : List ℕ) : Type 0 where
  size : length img ≡ length_of (version img)
  counts : T (counts_right img)
  sum : T (sum_right img)
  values : T (values_allowed img)

-- each question was answered by yes
accepted : (img : List ℕ) (n : ℕ) → power_up_reply img ≡ Ok n → Accepted img
unfolding power_up_reply size_right version
accepted img n e =
    let yes = asked-yes (power_up_questions img) (Ok 0) n e in
    record {
      size = version-length versions (length img) (ltb→lt 0 (version img) yes.0);
      counts = yes.1.0;
      sum = yes.1.1.0;
      values = yes.1.1.1.0;
    }

-- what stands for younger sections has its size and is allowed
standing-fit : Fit sections (standing sections)
standing-fit = (refl, (refl, (refl, tt)))

pub standing-fine : Fine sections (standing sections)
unfolding module_allowed module_config_allowed entries_allowed entry_allowed config_allowed kept_allowed pairs_allowed number real_from from up_to of_int of_bits le
standing-fine = (tt, (tt, (tt, (tt, (tt, (tt, tt))))))

module _ (img : List ℕ) (t : T (are_bytes img)) (a : Accepted img) where
  own-fit : Fit (own img) (split (own img) img)
  own-fit = split-fit (own img) img (omega (arith, a.size))

  own-fine : Fine (own img) (split (own img) img)
  unfolding values_allowed
  own-fine = split-fine (own img) img t a.values

  contents-fit : Fit sections (contents img)
  unfolding contents
  contents-fit = fit-more (version img) sections (split (own img) img) own-fit standing-fit

  contents-fine : Fine sections (contents img)
  unfolding contents
  contents-fine = fine_more (version img) sections (split (own img) img) own-fit own-fine standing-fine

  -- what it is stored as, whatever its length
  renewed : encode (decode img) ≡ summed (framed sections (contents img))
  unfolding encode decode
  renewed = ap (λ (cs : List (List ℕ)). summed (framed sections cs)) (from-again (contents img) contents-fit contents-fine)

  -- its body is what its own sections hold
  body-again : framed (own img) (split (own img) img) ≡ take (sum_place (own img)) img
  unfolding counts_right
  body-again = framed-split (own img) img (omega (arith, a.size)) a.counts

  -- after which stand the two bytes of its sum
  sum-again : summed (take (sum_place (own img)) img) ≡ img
  unfolding summed sum_right
  sum-again =
      let p = sum_place (own img) in
      let n : length (drop p img) ≡ 2 = simp length-drop (omega (arith, a.size)) in
      let e = eqb→eq (number (drop p img)) (total (take p img) % 65536) a.sum in
      rw (← e) (rw (rw n at (come-back.bytes (drop p img) (bytes_drop p img t))) (take-append-drop p img))

-- its setup is in its ranges
pub accepted-held : (img : List ℕ) (n : ℕ) → T (are_bytes img) → power_up_reply img ≡ Ok n → SetupHeld (decode img)
unfolding decode
accepted-held img n t e = let a = accepted img n e in from-held (contents img) (contents-fit img t a) (contents-fine img t a)

-- an image of the length that is stored has every section
long-version : (img : List ℕ) → length img ≡ image_size → version img ≡ 3
unfolding version
long-version img e = rw e

-- and is stored again as the same bytes
pub encode-again : (img : List ℕ) → T (are_bytes img) → length img ≡ image_size → power_up_reply img ≡ Ok 0 → encode (decode img) ≡ img
encode-again img t l e =
    let a = accepted img 0 e in
    let v = long-version img l in
    let whole : contents img ≡ split (own img) img = unfold contents in rw v (append-nil (split sections img)) in
    let rows : sections ≡ own img = rw v in
    renewed img t a ∙ ap₂ (λ (rs : List Section) (cs : List (List ℕ)). summed (framed rs cs)) rows whole ∙ ap summed (body-again img t a) ∙ sum-again img t a

-- ---- to bytes: the first v sections with contents that fit them, where v is the version of their length
module _ (v : ℕ) (cs : List (List ℕ)) (f : Fit (take v sections) cs) (one : version_among versions (length_of v) ≡ v) (low : 0 < v)
    (a : T (all_allowed (take v sections) cs)) where
  abbrev shown : List ℕ
  shown = summed (framed (take v sections) cs)

  body-long : length (framed (take v sections) cs) ≡ sum_place (take v sections)
  body-long = framed-length (take v sections) cs f

  shown-long : length shown ≡ length_of v
  unfolding summed
  shown-long =
      length-append (framed (take v sections) cs) _ ∙ omega (arith, body-long, length-bytes 2 (total (framed (take v sections) cs) % 65536))

  shown-version : version shown ≡ v
  unfolding version
  shown-version = ap (version_among versions) shown-long ∙ one

  split-again : split (take v sections) shown ≡ cs
  unfolding summed
  split-again = split-framed (take v sections) cs _ f

  -- what its sections hold
  shown-contents : contents shown ≡ cs ++ standing (drop v sections)
  unfolding contents
  shown-contents = rw shown-version (rw split-again)

  -- the counts stand where they are looked for
  counts-right : T (counts_right shown)
  unfolding counts_right summed
  counts-right = rw shown-version (counts-framed (take v sections) cs _ f)

  -- a sum below 65536 comes back from its two bytes
  sum-right : T (sum_right shown)
  unfolding sum_right summed
  sum-right =
      let b = framed (take v sections) cs in
      let p = sum_place (take v sections) in
      let n = total b % 65536 in
      let e : number (bytes_of 2 n) ≡ n = come-back.numbers 2 n (omega arith) in
      rw (shown-version, take_at b (bytes_of 2 n) p body-long, drop_at b (bytes_of 2 n) p body-long, e) (eqb_refl n)

  values-right : T (values_allowed shown)
  unfolding values_allowed
  values-right = rw (shown-version, split-again) a

  -- and is accepted
  shown-accepted : power_up_reply shown ≡ Ok 0
  unfolding power_up_reply size_right
  shown-accepted =
      yes-asked (power_up_questions shown) (Ok 0) (rw shown-version (lt→ltb 0 v low), (counts-right, (sum-right, (values-right, tt))))

-- the image of a setup, and the one that the box before Change 1 stored
module _ (s : Setup) (h : SetupHeld s) where
  pub encode-long : length (encode s) ≡ image_size
  unfolding encode
  encode-long = shown-long 3 (contents_of s) (of-fit s h) refl (omega arith) (of-allowed s h)

  pub decode-back : decode (encode s) ≡ s
  unfolding decode encode
  decode-back =
      ap setup_from (shown-contents 3 (contents_of s) (of-fit s h) refl (omega arith) (of-allowed s h) ∙ append-nil (contents_of s)) ∙ of-back s h

  pub encode-accepted : power_up_reply (encode s) ≡ Ok 0
  unfolding encode
  encode-accepted = shown-accepted 3 (contents_of s) (of-fit s h) refl (omega arith) (of-allowed s h)

  -- the sections that an older image has
  older-fit : Fit (take 2 sections) (take 2 (contents_of s))
  older-fit = ((of-fit s h).0, ((of-fit s h).1.0, tt))

  older-allowed : T (all_allowed (take 2 sections) (take 2 (contents_of s)))
  unfolding all_allowed
  older-allowed =
      let a = both (module_allowed (module_bytes s)) _ (of-allowed s h) in
      let rows = entries_allowed 16 (entries_bytes s.entries) in
      join (module_allowed (module_bytes s)) _ a.0 (join rows _ (both rows _ a.1).0 tt)

  pub older-long : length (older_image s) ≡ 717
  older-long = shown-long 2 (take 2 (contents_of s)) older-fit refl (omega arith) older-allowed

  pub older-accepted : power_up_reply (older_image s) ≡ Ok 0
  older-accepted = shown-accepted 2 (take 2 (contents_of s)) older-fit refl (omega arith) older-allowed

  -- it holds the same, but zeros for the data channel
  pub older-back : decode (older_image s) ≡ record { module_config = s.module_config; wd_preset = s.wd_preset; entries = s.entries; data_kept = zero_data }
  unfolding decode setup_from kept_from pairs_from real_from number of_bits of_int
  older-back =
      ap setup_from (shown-contents 2 (take 2 (contents_of s)) older-fit refl (omega arith) older-allowed)
      ∙ ap (λ (u : Setup). record { module_config = u.module_config; wd_preset = u.wd_preset; entries = u.entries; data_kept = zero_data }) (of-back s h)
