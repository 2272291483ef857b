-- What the loops of a tick and of a write leave of the channels, and what that makes of the whole box. Assumes nothing.
use mathlib.Core.Path.{◌≡◌, refl, sym, ap, subst, ◌∙◌}
use mathlib.Core.Bool.{Bool, true, false, cond}
use mathlib.Core.List.{List, [], ◌∷◌, map}
use Prim.Native.Nat.{ℕ, suc, ◌/◌, ◌≤◌}
use native.Mathlib.Omega.{arith}
use lib.ListN.{length, length-map, get_or, set}
use Rattle.model.specs.declared.Channel.{Channel}
use Rattle.model.specs.declared.DataChannel.{DataChannel}
use Rattle.model.specs.declared.Module.{Module}
use Rattle.model.specs.State.{nothing, with_channels}
use Rattle.model.specs.Errors.{data_error_of, general_error_of}
use Rattle.model.specs.Questions.{length_of}
use Rattle.model.specs.Calls.{write, Stepped, step}
use Rattle.model.specs.Tick.{save_due, saved}
use Rattle.model.proofs.Laws.Filled.{filled, none, alike, in_place, below, below_none, from, from-none, from_all, down, all-below}
use Rattle.model.proofs.Laws.Tests.{either}
use Rattle.registers.specs.Places.{placed, slot_of}
use Rattle.ticks.specs.declared.Begun.{Begun}
use Rattle.ticks.specs.Begun.{begun_of, ticked_by, data_ticked_by}
use Rattle.ticks.proofs.Whole.{whole}
use Rattle.writes.specs.declared.Begun as Write
use Rattle.writes.specs.Begun.{data_by, each_written, whole_of}
use Rattle.writes.proofs.Laws.Begun.{first_done}
use Rattle.pd3120.specs.Parts.{WriteBy}
use Rattle.pd3120_c.specs.Codes.{reply_code, answer_code, Left, Ticked}
use Rattle.pd3120_c.proofs.Laws.Lengths.{no-length}

-- such a loop leaves as many
length-filled : (done : ℕ → Bool) (g : ℕ → Channel → Channel) (xs ys : List Channel) → length (filled done g xs ys) ≡ length ys
unfolding filled
length-filled done g [] ys = refl
length-filled done g (x ∷ xs) [] = refl
length-filled done g (x ∷ xs) (y ∷ ys) = ap suc (length-filled (λ (j : ℕ). done (suc j)) (λ (j : ℕ). g (suc j)) xs ys)

-- ---- a loop from the channel at place n down: those from place k on are done
abbrev pub done_down : (Channel → Channel) → ℕ → ℕ → List Channel → List Channel
done_down g n k cs = filled (from n k) (λ (j : ℕ). g) cs cs

down_none : (g : Channel → Channel) (n : ℕ) (cs : List Channel) → done_down g n n cs ≡ cs
down_none g n cs = none (λ (j : ℕ). g) (from n n) cs cs (λ j h. from-none n j)

down_more : (g : Channel → Channel) (n k k' : ℕ) (cs : List Channel) (d : Channel) → k ≡ suc k' → k ≤ n → n ≤ length cs
    → set (done_down g n k cs) k' (g (get_or (done_down g n k cs) k' d)) ≡ done_down g n k' cs
down_more g n k k' cs d e h l = rw e (in_place (λ (j : ℕ). g) (from n (suc k')) (from n k') k' cs d (omega arith) (down n k' (omega arith)))

down_all : (g : Channel → Channel) (n : ℕ) (cs : List Channel) → done_down g n 0 cs ≡ filled (below n) (λ (j : ℕ). g) cs cs
down_all g n cs = alike (λ (j : ℕ). g) (from n 0) (below n) cs cs (from_all n)

-- ---- and one from the first channel up: those below place k are done, each by its place
abbrev pub done_up : (ℕ → Channel → Channel) → ℕ → List Channel → List Channel
done_up g k cs = filled (below k) g cs cs

-- ---- the box in a loop down: m0 before it, m where the loop has come to, and a turn more, with ch in place of the channel there
pub down_begins : (g : Channel → Channel) (n : ℕ) (m : Module) → m ≡ with_channels (done_down g n n m.channels) m
down_begins g n m = ap (λ (cs : List Channel). with_channels cs m) (sym (down_none g n m.channels))

-- it has as many channels as before
as_long : (done : ℕ → Bool) (g : ℕ → Channel → Channel) (m0 m : Module) → m ≡ with_channels (filled done g m0.channels m0.channels) m0
    → length m.channels ≡ length m0.channels
as_long done g m0 m p = ap (λ (x : Module). length x.channels) p ∙ length-filled done g m0.channels m0.channels

pub down_long : (g : Channel → Channel) (n k size : ℕ) (m0 m : Module) → m ≡ with_channels (done_down g n k m0.channels) m0 → length m.channels ≡ size
    → length m0.channels ≡ size
down_long g n k size m0 m p l = sym (as_long (from n k) (λ (j : ℕ). g) m0 m p) ∙ l

pub down_goes : (g : Channel → Channel) (n k k' : ℕ) (m0 m : Module) (ch d : Channel) → k ≡ suc k' → k ≤ n → n ≤ length m.channels
    → m ≡ with_channels (done_down g n k m0.channels) m0 → ch ≡ g (get_or m.channels k' d)
    → with_channels (set m.channels k' ch) m ≡ with_channels (done_down g n k' m0.channels) m0
down_goes g n k k' m0 m ch d e h l p q =
    let long : n ≤ length m0.channels = omega (arith, as_long (from n k) (λ (j : ℕ). g) m0 m p) in
    let turn : set m.channels k' ch ≡ done_down g n k' m0.channels = ap (set m.channels k') q
    ∙ ap (λ (x : Module). set x.channels k' (g (get_or x.channels k' d))) p ∙ down_more g n k k' m0.channels d e h long in
    ap (λ (cs : List Channel). with_channels cs m) turn ∙ ap (with_channels (done_down g n k' m0.channels)) p

-- ---- a tick: each channel is ticked, and where the tick saves, saved
-- one after the other
mapped-twice : (g f : Channel → Channel) (cs : List Channel) → map g (map f cs) ≡ map (λ ch. g (f ch)) cs
mapped-twice g f [] = refl
mapped-twice g f (c ∷ cs) = ap (λ (ds : List Channel). g (f c) ∷ ds) (mapped-twice g f cs)

-- a tick saves all of them or none
saved-done : (due : Bool) (f : Channel → Channel) (cs : List Channel) → length (map f cs) ≡ 16
    → filled (below (cond due 16 0)) (λ (k : ℕ). saved true) (map f cs) (map f cs) ≡ map (λ ch. saved due (f ch)) cs
unfolding saved
saved-done true f cs l = all-below (saved true) 16 (map f cs) (map f cs) l l ∙ mapped-twice (saved true) f cs
saved-done false f cs l = none (λ (k : ℕ). saved true) (below 0) (map f cs) (map f cs) (λ j h. below_none j)

pub few : (m : Module) (b : Begun) → b ≡ begun_of m → b.count ≤ 16
unfolding begun_of
few m b e = rw e (either (λ (n : ℕ). n ≤ 16) (save_due m.shared) (omega arith) (omega arith))

-- the module that a tick leaves
abbrev left : Begun → List Channel → DataChannel → Module
left b cs d = record { shared = b.shared; service = b.service; channels = cs; data_channel = d }

-- the channels after the save
abbrev saving : Begun → List Channel → List Channel
saving b cs = filled (below b.count) (λ (k : ℕ). saved true) cs cs

-- the channels after both loops
abbrev through : Begun → List Channel → List Channel
through b cs = saving b (filled (below 16) (λ (k : ℕ). ticked_by b) cs cs)

-- the module after both loops, of a box that had the data channel d
abbrev end : Begun → Module → Module
end b m = left b (through b m.channels) (data_ticked_by b m.data_channel)

whole-through : (m : Module) → length m.channels ≡ 16 → Ticked m (end (begun_of m) m)
unfolding step begun_of
whole-through m l =
    let b = begun_of m in
    let cs = m.channels in
    let n : length (map (ticked_by b) cs) ≡ 16 = rw length-map l in
    ap (λ (ds : List Channel). left b ds (data_ticked_by b m.data_channel))
    (ap (saving b) (all-below (ticked_by b) 16 cs cs l l) ∙ saved-done (save_due m.shared) (ticked_by b) cs n)
    ∙ whole m l

follows : (m : Module) (b : Begun) → length m.channels ≡ 16 → b ≡ begun_of m → Ticked m (end b m)
follows m b l e = subst (λ (x : Begun). Ticked m (end x m)) (sym e) (whole-through m l)

-- in the words of the two loops, which both end at place 0: m1 is left by the first, m2 by the second
pub tick_left : (m : Module) (b : Begun) (d : DataChannel) (k1 k2 : ℕ) (m1 m2 : Module) → length m.channels ≡ 16 → b ≡ begun_of m
    → d ≡ data_ticked_by b m.data_channel → k1 ≡ 0 → m1 ≡ with_channels (done_down (ticked_by b) 16 k1 m.channels) (left b m.channels d) → k2 ≡ 0
    → m2 ≡ with_channels (done_down (saved true) b.count k2 m1.channels) m1 → Ticked m m2
tick_left m b d k1 k2 m1 m2 l e f z1 e1 z2 e2 =
    let g1 : m1 ≡ left b (filled (below 16) (λ (k : ℕ). ticked_by b) m.channels m.channels) d = e1
    ∙ ap (λ (k : ℕ). left b (done_down (ticked_by b) 16 k m.channels) d) z1
    ∙ ap (λ (cs : List Channel). left b cs d) (down_all (ticked_by b) 16 m.channels) in
    let g2 : m2 ≡ with_channels (saving b m1.channels) m1 = e2
    ∙ ap (λ (k : ℕ). with_channels (done_down (saved true) b.count k m1.channels) m1) z2
    ∙ ap (λ (cs : List Channel). with_channels cs m1) (down_all (saved true) b.count m1.channels) in
    let g : m2 ≡ end b m = g2 ∙ ap (λ (x : Module). with_channels (saving b x.channels) x) g1 ∙ ap (left b (through b m.channels)) f in
    g ∙ follows m b l e

-- ---- a write
-- the module that it leaves
abbrev pub written : Write.Begun → List Channel → DataChannel → Module
written b cs d = record { shared = b.shared; service = b.service; channels = cs; data_channel = d }

-- what it does to the channel at place k when it comes to it
abbrev pub each_by : Write.Begun → ℕ → Channel → Channel
each_by b k ch = each_written (placed b.rest.place) b.rest.word k ch

-- m1 is the box where the first parts are put back and the data channel is written; m' that at the end of the loop, which is at place k
pub write_ends : (m : Module) (n : ℕ) (bs : List ℕ) (i : ℕ) (b : Write.Begun) (m1 : Module) (k : ℕ) (m' : Module) (code : ℕ) → length m.channels ≡ 16
    → i ≡ slot_of (n / 16) → WriteBy m.shared m.service (get_or m.channels i nothing) n bs b
    → m1 ≡ written b (set m.channels i b.channel) (data_by m.shared n bs m.data_channel)
    → k ≡ b.rest.count → m' ≡ with_channels (done_up (each_by b) k m1.channels) m1
    → code ≡ reply_code b.rest.reply (data_error_of m') (general_error_of m') → Left (step m (write n bs)) m' code
write_ends m n bs i b m1 k m' code l p h t at g e =
    let own = ap (λ (j : ℕ). get_or m.channels j nothing) (sym p) in
    let w = h.2 m (record { shared_is = refl; service_is = refl; sixteen = l; channel_is = own }) in
    let d = data_by m.shared n bs m.data_channel in
    let cs = set m.channels i b.channel in
    let full = g ∙ ap (λ (x : Module). with_channels (done_up (each_by b) k x.channels) x) t
    ∙ ap (λ (j : ℕ). written b (done_up (each_by b) j cs) d) at ∙ ap (λ (ds : List Channel). written b ds d) (first_done (each_by b) b.rest.count cs)
    ∙ ap (λ (j : ℕ). whole_of b j d m) p in (
      full ∙ ap (λ (x : Stepped). x.box) w,
      e ∙ ap (λ (x : Module). reply_code b.rest.reply (data_error_of x) (general_error_of x)) full ∙ ap (λ (x : Stepped). answer_code x.answer) w,
    )

-- the length of its answer is none
pub write-length : (m : Module) (n : ℕ) (bs : List ℕ) (i : ℕ) (b : Write.Begun) → length m.channels ≡ 16 → i ≡ slot_of (n / 16)
    → WriteBy m.shared m.service (get_or m.channels i nothing) n bs b → length_of b.rest.reply ≡ 0
write-length m n bs i b l p h =
    let own = ap (λ (j : ℕ). get_or m.channels j nothing) (sym p) in
    ap (λ (x : Stepped). x.answer.length) (h.2 m (record { shared_is = refl; service_is = refl; sixteen = l; channel_is = own }))
    ∙ no-length m n bs
