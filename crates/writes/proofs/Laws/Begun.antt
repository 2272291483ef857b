-- The two steps of a write, put together: the channels of the second step, and the box that both leave. Assumes nothing.
use Rattle.std.specs.Prelude.{Ok, Err}
use mathlib.Core.Path.{◌≡◌, refl, sym, ap, ap₂, subst, ◌∙◌}
use mathlib.Core.Bool.{Bool, true, false, cond}
use mathlib.Core.List.{List, [], ◌∷◌, ◌++◌, map}
use Prim.Native.Nat.{ℕ, zero, suc, ◌+◌, ◌/◌, ◌≤◌}
use native.Mathlib.Nat.{zero-lt-suc}
use native.Mathlib.Omega.{arith}
use lib.Dec.{T, ltb, leb-suc-suc}
use lib.ListN.{length, get_or, take, drop, set}
use lib.Seq.{set-get_or}
use borrow.Author.Tests.{lt-ltb}
use Rattle.model.specs.declared.Channel.{Channel}
use Rattle.model.specs.declared.Shared.{Shared}
use Rattle.model.specs.declared.Service.{Service}
use Rattle.model.specs.declared.DataChannel.{DataChannel}
use Rattle.model.specs.declared.Module.{Module}
use Rattle.model.specs.declared.Refusal.{Refusal}
use Rattle.model.specs.Questions.{Reply}
use Rattle.model.specs.declared.ServiceRegister.{ServiceRegister}
use Rattle.model.specs.declared.ServiceRegister.TheVariants.{Highest, Reset, FreeRunTimer, WDTimer, ModuleConfig, WDPreset, WriteEnable, CommonError}
use Rattle.model.specs.State.{write_enable_of, data_channel_of, module_of, nothing}
use Rattle.model.specs.Registers.{Place, service, digital, common, data_channel, unlisted, place}
use Rattle.model.specs.Questions.{write_reply}
use Rattle.model.specs.Writes.{each, every_written, common_written, data_reset, written}
use Rattle.model.proofs.Laws.Filled.{filled, none, below, below_none}
use Rattle.registers.specs.declared.Place as Code
use Rattle.registers.specs.Places.{placed, slot_of, OfChannel}
use Rattle.registers.proofs.Laws.{slot-of}
use Rattle.writes.specs.declared.Begun.{Begun}
use Rattle.writes.specs.Accepted.{write_of}
use Rattle.writes.specs.Begun.{shared_after, service_after, channel_after, data_after, data_left, data_by, service_count, count_of, of_data_of}
use Rattle.writes.specs.Begun.{written_word, each_written, first_each, BegunBy}
use Rattle.writes.proofs.Laws.Accepted.{answered}

-- ---- the channels
-- with the places below n done, the first n channels are f's
done_below : (f g : ℕ → Channel → Channel) (p : ℕ → Bool) (n i : ℕ) (xs : List Channel) → ((j : ℕ) → g j ≡ f (i + j)) → ((j : ℕ) → p j ≡ ltb j n)
    → filled p g xs xs ≡ each f i (take n xs) ++ drop n xs
unfolding filled
done_below f g p zero i xs q e = none g p xs xs (λ j l. e j ∙ below_none j)
done_below f g p (suc n) i [] q e = refl
done_below f g p (suc n) i (x ∷ xs) q e =
    let h : g 0 ≡ f i = q 0 ∙ ap f (omega arith) in
    ap₂ (λ (c : Channel) (r : List Channel). c ∷ r)
    (ap (λ (b : Bool). cond b (g 0 x) x) (e 0 ∙ lt-ltb 0 (suc n) (zero-lt-suc n)) ∙ ap (λ (k : Channel → Channel). k x) h)
    (done_below f (λ (j : ℕ). g (suc j)) (λ (j : ℕ). p (suc j)) n (suc i) xs (λ j. q (suc j) ∙ ap f (omega arith)) (λ j. e (suc j) ∙ leb-suc-suc (suc j) n))

pub first_done : (f : ℕ → Channel → Channel) (n : ℕ) (xs : List Channel) → filled (below n) f xs xs ≡ first_each f n xs
first_done f n xs = done_below f f (below n) n 0 xs (λ j. ap f (omega arith)) (λ j. refl)

-- the first n of n channels are all
pub all_of : (f : ℕ → Channel → Channel) (n i : ℕ) (xs : List Channel) → length xs ≡ n → each f i (take n xs) ++ drop n xs ≡ each f i xs
all_of f zero i [] e = refl
all_of f zero i (x ∷ xs) e = absurd (omega (arith, e))
all_of f (suc n) i [] e = refl
all_of f (suc n) i (x ∷ xs) e = ap (λ (r : List Channel). f i x ∷ r) (all_of f n (suc i) xs (omega (arith, e)))

-- what does not depend on the place is done to each
each_map : (f : Channel → Channel) (i : ℕ) (xs : List Channel) → each (λ (j : ℕ). f) i xs ≡ map f xs
each_map f i [] = refl
each_map f i (x ∷ xs) = ap (λ (r : List Channel). f x ∷ r) (each_map f (suc i) xs)

map_same : (f : Channel → Channel) → ((ch : Channel) → ch ≡ f ch) → (xs : List Channel) → xs ≡ map f xs
map_same f e [] = refl
map_same f e (x ∷ xs) = ap₂ (λ (c : Channel) (r : List Channel). c ∷ r) (e x) (map_same f e xs)

every-channel : (r : ServiceRegister) (xs : List Channel) → length xs ≡ 16 → first_each (each_written (service r) 0) (service_count r) xs ≡ map (every_written r) xs
unfolding every_written
every-channel Highest xs l = map_same (every_written Highest) (λ ch. refl) xs
every-channel Reset xs l = all_of (λ (j : ℕ). every_written Reset) 16 0 xs l ∙ each_map (every_written Reset) 0 xs
every-channel FreeRunTimer xs l = map_same (every_written FreeRunTimer) (λ ch. refl) xs
every-channel WDTimer xs l = map_same (every_written WDTimer) (λ ch. refl) xs
every-channel ModuleConfig xs l = map_same (every_written ModuleConfig) (λ ch. refl) xs
every-channel WDPreset xs l = map_same (every_written WDPreset) (λ ch. refl) xs
every-channel WriteEnable xs l = map_same (every_written WriteEnable) (λ ch. refl) xs
every-channel CommonError xs l = all_of (λ (j : ℕ). every_written CommonError) 16 0 xs l ∙ each_map (every_written CommonError) 0 xs

-- ---- the box
-- the parts after an accepted write, and each channel, make the box that it leaves
whole : (p : Place) (bs : List ℕ) (i : ℕ) (s : Shared) (v : Service) (cs : List Channel) (d : DataChannel) → OfChannel i p → length cs ≡ 16 →
    module_of (shared_after p bs s) (service_after p v)
    (first_each (each_written p (written_word p bs)) (count_of p) (set cs i (channel_after p s bs (get_or cs i nothing)))) (data_after p s bs d)
    ≡ written p bs (module_of s v cs d)
unfolding written common_written
whole (service r) bs i s v cs d o l = rw (set-get_or cs i nothing, every-channel r cs l)
whole (digital k r) bs i s v cs d o l = rw o
whole (common r) bs i s v cs d o l = rw (set-get_or cs i nothing, all_of (common_written r bs) 16 0 cs l)
whole (data_channel r) bs i s v cs d o l = rw (set-get_or cs i nothing)
whole unlisted bs i s v cs d o l = rw (set-get_or cs i nothing)

-- ---- the data channel
no : {A : Type 0} → true ≡ false → A
no e = absurd (subst T e tt)

-- a service register that comes to no channel leaves it
service-stays : (r : ServiceRegister) (d : DataChannel) → ltb 0 (service_count r) ≡ false → data_reset r d ≡ d
unfolding data_reset
service-stays Highest d e = refl
service-stays Reset d e = no e
service-stays FreeRunTimer d e = refl
service-stays WDTimer d e = refl
service-stays ModuleConfig d e = refl
service-stays WDPreset d e = refl
service-stays WriteEnable d e = refl
service-stays CommonError d e = refl

data-stays : (p : Place) (s : Shared) (bs : List ℕ) (d : DataChannel) → of_data_of p ≡ false → data_after p s bs d ≡ d
data-stays (service r) s bs d e = service-stays r d e
data-stays (digital k r) s bs d e = refl
data-stays (common r) s bs d e = refl
data-stays (data_channel r) s bs d e = no e
data-stays unlisted s bs d e = refl

-- by the reply of the write
pub data-by : (s : Shared) (n : ℕ) (bs : List ℕ) (p : Place) (r : Reply) (d : DataChannel) → p ≡ place n → r ≡ write_reply (write_enable_of s) n p bs
    → data_by s n bs d ≡ data_left r p s bs d
unfolding data_by
data-by s n bs p r d e w = rw (w, e)

count_fits : (p : Place) → count_of p ≤ 16
count_fits (service Highest) = omega arith
count_fits (service Reset) = omega arith
count_fits (service FreeRunTimer) = omega arith
count_fits (service WDTimer) = omega arith
count_fits (service ModuleConfig) = omega arith
count_fits (service WDPreset) = omega arith
count_fits (service WriteEnable) = omega arith
count_fits (service CommonError) = omega arith
count_fits (digital k r) = omega arith
count_fits (common r) = omega arith
count_fits (data_channel r) = omega arith
count_fits unlisted = omega arith

-- the parts that `begin` gives, of a write that is done and of one that is refused
module _ (s : Shared) (v : Service) (ch : Channel) (n : ℕ) (bs : List ℕ) (p : Code.Place) (r : Reply) (e : placed p ≡ place n)
    (w : r ≡ write_reply (write_enable_of s) n (placed p) bs) where
  own : OfChannel (slot_of (n / 16)) (placed p)
  own = subst (OfChannel (slot_of (n / 16))) (sym e) (slot-of n)

  pub begun-done : (k : ℕ) → r ≡ Ok k → (s' : Shared) (v' : Service) (ch' : Channel) (count : ℕ) (of-data : Bool) (word : ℕ)
      → s' ≡ shared_after (placed p) bs s → v' ≡ service_after (placed p) v → ch' ≡ channel_after (placed p) s bs ch
      → count ≡ count_of (placed p) → of-data ≡ of_data_of (placed p) → word ≡ written_word (placed p) bs
      → BegunBy s v ch n bs
      (record { shared = s'; service = v'; channel = ch'; rest = record { reply = r; count = count; of_data = of-data; place = p; word = word } })
  begun-done k d s' v' ch' count of-data word es ev ec en eo ew = (
    rw en (count_fits (placed p)),
    λ x o. data-by s n bs (placed p) r x e w ∙ rw d (data-stays (placed p) s bs x (sym eo ∙ o)),
    λ m is iv l ic. answered m n bs (placed p) r _ e (rw is w)
        (rw (data-by s n bs (placed p) r (data_channel_of m) e w, d, es, ev, ec, en, ew, ← is, ← iv, ← ic)
        (whole (placed p) bs (slot_of (n / 16)) m.shared m.service m.channels (data_channel_of m) own l)),
  )

  pub begun-refused : (q : Refusal) → r ≡ Err q
      → BegunBy s v ch n bs (record { shared = s; service = v; channel = ch; rest = record { reply = r; count = 0; of_data = false; place = p; word = 0 } })
  begun-refused q d = (
    omega arith,
    λ x o. data-by s n bs (placed p) r x e w ∙ rw d,
    λ m is iv l ic. answered m n bs (placed p) r _ e (rw is w)
        (rw (data-by s n bs (placed p) r (data_channel_of m) e w, d, ← is, ← iv, ← ic, set-get_or m.channels (slot_of (n / 16)) nothing)),
  )

-- a box with the parts that a write begins with, and its channels after the second step, is the box that the write leaves
pub ended : (m : Module) (n : ℕ) (bs : List ℕ) (i : ℕ) (b : Begun) (cs : List Channel) (d : DataChannel) → i ≡ slot_of (n / 16) → length m.channels ≡ 16
    → BegunBy m.shared m.service (get_or m.channels i nothing) n bs b
    → cs ≡ first_each (each_written (placed b.rest.place) b.rest.word) b.rest.count (set m.channels i b.channel)
    → d ≡ data_by m.shared n bs (data_channel_of m)
    → record { reply = b.rest.reply; after = module_of b.shared b.service cs d } ≡ write_of m n bs
ended m n bs i b cs d e l h q f = rw (q, e, f) (h.2 m refl refl l (ap (λ (j : ℕ). get_or m.channels j nothing) (sym e)))
