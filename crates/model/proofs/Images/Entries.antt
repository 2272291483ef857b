-- A channel's entry, from 44 bytes and back: its ten values stand side by side in them, so each part is one value's bytes. Assumes nothing.
use mathlib.Core.Path.{◌≡◌, refl, sym, ap, ◌∙◌}
use mathlib.Core.List.{List, [], ◌∷◌, ◌++◌}
use Prim.Native.Nat.{ℕ, ◌+◌, ◌^◌, ◌<◌, ◌≤◌}
use native.Mathlib.Omega.{arith}
use lib.Dec.{T}
use lib.IntN.{ℤ}
use lib.ListN.{length, take, drop, length-append}
use lib.Pow.{are_bytes}
use lib.Seq.{take_all, take_at, drop_at, drop-drop}
use mir.Syntax.{w32}
use mir.Val.{SFits}
use Rattle.integers.specs.Bytes.{number, bytes_of, signed_number, signed_bytes}
use Rattle.integers.proofs.Claims.{come-back}
use Rattle.counts.specs.declared.OperatingCount.{OperatingCount}
use Rattle.numbers.specs.Reals.{real_from, real_bytes}
use Rattle.numbers.specs.Written.{limit_allowed}
use Rattle.model.specs.Reads.{config_bytes}
use Rattle.model.specs.Image.{Entry, entry_bytes, part, config_from, entry_from, config_allowed, preset_count_allowed, entry_allowed}
use Rattle.model.proofs.Images.Tests.{both, join}
use Rattle.model.proofs.Images.Values.{number_fits, number-again, signed-fits, signed-again, signed_back, Preset, preset-from, Limit, limit-from}
use Rattle.model.proofs.Images.Values.{limit-again, limit-back}
use Rattle.model.proofs.Images.Parts.{bytes-part, part_length, part-more, beside}

-- registers 2, 4 and 5 in their ranges
pub record Counted (counter : ℤ) (operating : OperatingCount) (user : List ℕ) : Type 0 where
  pub counter-fits : SFits w32 counter
  pub operating-fits : operating.0 < 2 ^ 32
  pub user-long : length user ≡ 4

-- an entry's values in their ranges
pub record Held (e : Entry) : Type 0 where
  pub config : T (config_allowed (config_bytes e.config))
  pub feedback : Preset e.fb_preset.0
  pub out : Preset e.out_preset.0
  pub min : Limit e.min
  pub max : Limit e.max
  pub reals : length e.reals ≡ 8
  pub maintenance : length e.maintenance ≡ 4
  pub counts : Counted e.counter e.operating e.user

-- ---- from bytes
-- four bytes are the bytes of their settings
pub config-again : (l : List ℕ) → length l ≡ 4 → config_bytes (config_from l) ≡ l
config-again [] e = absurd (omega arith)
config-again (a ∷ []) e = absurd (omega arith)
config-again (a ∷ b ∷ []) e = absurd (omega arith)
config-again (a ∷ b ∷ c ∷ []) e = absurd (omega arith)
config-again (a ∷ b ∷ c ∷ d ∷ []) e = refl
config-again (a ∷ b ∷ c ∷ d ∷ x ∷ l) e = absurd (omega arith)

-- 44 allowed bytes
module _ (l : List ℕ) (e : length l ≡ 44) (t : T (are_bytes l)) (h : T (entry_allowed l)) where
  -- how long a part is, and the bytes of its value again
  long : (at n : ℕ) → at + n ≤ 44 → length (part at n l) ≡ n
  long at n m = part_length at n l (omega arith)

  -- what the last two questions allow
  allowed-limits : T (limit_allowed (real_from (part 12 4 l))) × T (limit_allowed (real_from (part 16 4 l)))
  unfolding entry_allowed
  allowed-limits =
      both (limit_allowed (real_from (part 12 4 l))) (limit_allowed (real_from (part 16 4 l)))
      (both (preset_count_allowed (part 8 4 l)) _ (both (preset_count_allowed (part 4 4 l)) _ (both (config_allowed (part 0 4 l)) _ h).1).1).1

  -- a signed value gives its four bytes again
  signed_part : (at : ℕ) → at + 4 ≤ 44 → signed_bytes 4 (signed_number (part at 4 l)) ≡ part at 4 l
  signed_part at m = signed-again (part at 4 l) (long at 4 m) (bytes-part at 4 l t)

  -- a limit of the current gives its four bytes again
  real-part : (at : ℕ) → at + 4 ≤ 44 → T (limit_allowed (real_from (part at 4 l))) → real_bytes (real_from (part at 4 l)) ≡ part at 4 l
  real-part at m a = limit-again (part at 4 l) (long at 4 m) (bytes-part at 4 l t) a

  -- the ten parts, from the last on
  parts : part 0 4 l ++ (part 4 4 l ++ (part 8 4 l ++ (part 12 4 l ++ (part 16 4 l ++
      (part 20 8 l ++ (part 28 4 l ++ (part 32 4 l ++ (part 36 4 l ++ part 40 4 l)))))))) ≡ l
  parts =
      rw (
        part-more 36 4 4 l,
        part-more 32 4 8 l,
        part-more 28 4 12 l,
        part-more 20 8 16 l,
        part-more 16 4 24 l,
        part-more 12 4 28 l,
        part-more 8 4 32 l,
        part-more 4 4 36 l,
        part-more 0 4 40 l,
      )
      (take_all 44 l (omega arith))

  -- so the entry gives its bytes again
  pub entry-again : entry_bytes (entry_from l) ≡ l
  unfolding entry_bytes entry_from
  entry-again =
      beside (config-again (part 0 4 l) (long 0 4 (omega arith)))
      (beside (signed_part 4 (omega arith))
      (beside (signed_part 8 (omega arith))
      (beside (real-part 12 (omega arith) allowed-limits.0)
      (beside (real-part 16 (omega arith) allowed-limits.1)
      (beside {a = part 20 8 l} refl
      (beside {a = part 28 4 l} refl
      (beside {a = part 32 4 l} refl
      (beside (signed_part 36 (omega arith))
      (number-again (part 40 4 l) (long 40 4 (omega arith)) (bytes-part 40 4 l t))))))))))
      ∙ parts

  -- and each of its values is in its range
  pub entry-held : Held (entry_from l)
  unfolding entry_from entry_allowed config_allowed
  entry-held =
      let a = both (config_allowed (part 0 4 l)) _ h in
      let b = both (preset_count_allowed (part 4 4 l)) _ a.1 in
      let c = both (preset_count_allowed (part 8 4 l)) _ b.1 in
      record {
        config = a.0;
        feedback = preset-from (part 4 4 l) (long 4 4 (omega arith)) (bytes-part 4 4 l t) b.0;
        out = preset-from (part 8 4 l) (long 8 4 (omega arith)) (bytes-part 8 4 l t) c.0;
        min = limit-from (part 12 4 l) allowed-limits.0;
        max = limit-from (part 16 4 l) allowed-limits.1;
        reals = long 20 8 (omega arith);
        maintenance = long 28 4 (omega arith);
        counts =
            record {
              counter-fits = signed-fits (part 36 4 l) (long 36 4 (omega arith)) (bytes-part 36 4 l t);
              operating-fits = number_fits (part 40 4 l) (long 40 4 (omega arith)) (bytes-part 40 4 l t);
              user-long = long 32 4 (omega arith);
            };
      }

-- ---- to bytes
module _ (e : Entry) (h : Held e) where
  -- what stands after the Reals, after the maintenance bytes and after the user's
  after-reals : drop 28 (entry_bytes e) ≡ e.maintenance ++ (e.user ++ (signed_bytes 4 e.counter ++ bytes_of 4 e.operating.0))
  unfolding entry_bytes signed_bytes real_bytes bytes_of
  after-reals = drop_at e.reals _ 8 h.reals

  after-maintenance : drop 32 (entry_bytes e) ≡ e.user ++ (signed_bytes 4 e.counter ++ bytes_of 4 e.operating.0)
  after-maintenance = sym (drop-drop 4 28 (entry_bytes e)) ∙ ap (drop 4) after-reals ∙ drop_at e.maintenance _ 4 h.maintenance

  after-user : drop 36 (entry_bytes e) ≡ signed_bytes 4 e.counter ++ bytes_of 4 e.operating.0
  after-user = sym (drop-drop 4 32 (entry_bytes e)) ∙ ap (drop 4) after-maintenance ∙ drop_at e.user _ 4 h.counts.user-long

  -- each value is found where it stands
  pub entry-back : entry_from (entry_bytes e) ≡ e
  unfolding entry_from entry_bytes signed_bytes real_bytes bytes_of
  entry-back =
      let feedback = signed_back e.fb_preset.0 h.feedback.fits in
      let out = signed_back e.out_preset.0 h.out.fits in
      let min = limit-back e.min h.min in
      let max = limit-back e.max h.max in
      let reals = take_at e.reals (e.maintenance ++ (e.user ++ (signed_bytes 4 e.counter ++ bytes_of 4 e.operating.0))) 8 h.reals in
      let maintenance = ap (take 4) after-reals ∙ take_at e.maintenance _ 4 h.maintenance in
      let user = ap (take 4) after-maintenance ∙ take_at e.user _ 4 h.counts.user-long in
      let counter = ap (λ (l : List ℕ). signed_number (take 4 l)) after-user ∙ signed_back e.counter h.counts.counter-fits in
      let operating = ap (λ (l : List ℕ). number (take 4 l)) (sym (drop-drop 4 36 (entry_bytes e)) ∙ ap (drop 4) after-user) ∙ come-back.numbers 4
      e.operating.0 h.counts.operating-fits in
      λ i.
      record {
        config = e.config;
        fb_preset = record { 0 = feedback i };
        out_preset = record { 0 = out i };
        min = min i;
        max = max i;
        reals = reals i;
        maintenance = maintenance i;
        user = user i;
        counter = counter i;
        operating = record { 0 = operating i };
      }

  -- and is allowed there
  pub entry-allowed : T (entry_allowed (entry_bytes e))
  unfolding entry_allowed entry_bytes signed_bytes real_bytes bytes_of
  entry-allowed =
      join (config_allowed (config_bytes e.config)) _ h.config
      (join (preset_count_allowed (signed_bytes 4 e.fb_preset.0)) _ h.feedback.allowed
      (join (preset_count_allowed (signed_bytes 4 e.out_preset.0)) _ h.out.allowed
      (join (limit_allowed (real_from (real_bytes e.min))) _ (rw (limit-back e.min h.min) h.min.allowed)
      (rw (limit-back e.max h.max) h.max.allowed))))

  -- in 44 bytes
  pub entry_length : length (entry_bytes e) ≡ 44
  unfolding entry_bytes signed_bytes real_bytes bytes_of
  entry_length = simp length-append (omega (arith, h.reals, h.maintenance, h.counts.user-long))
