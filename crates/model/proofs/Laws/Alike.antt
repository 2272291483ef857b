-- Two boxes that are alike for a channel c, where ns are the channels that c may name: their shared records are equal, and so are c itself and, of each
-- channel that c may name, what decides its InFlag. Each rule keeps boxes alike. Assumes nothing.
use mathlib.Core.Path.{◌≡◌, refl, sym, ◌∙◌, ap, subst}
use mathlib.Core.Logic.{◌≢◌}
use mathlib.Core.Bool.{Bool, true, false, cond, not, ◌&&◌}
use mathlib.Core.List.{List, [], ◌∷◌, ◌++◌, map}
use Prim.Native.Nat.{ℕ, suc, ◌+◌, ◌-◌, ◌*◌, ◌/◌, ◌≤◌, ◌<◌}
use native.Mathlib.Omega.{arith}
use native.Mathlib.Decide.{ℕ_discrete}
use lib.Dec.{T, eqb, eqb_refl}
use lib.ListN.{length, get_or, set, length-set, length-map, get_or-map}
use lib.Seq.{get_or-set_same, get_or-set_other, set-get_or}
use borrow.Author.Tests.{not-true, eqb-false}
use Rattle.model.specs.declared.Config.{Config}
use Rattle.model.specs.declared.Channel.{Channel}
use Rattle.model.specs.declared.Shared.{Shared}
use Rattle.model.specs.declared.Module.{Module}
use Rattle.model.specs.declared.ServiceRegister.{ServiceRegister}
use Rattle.model.specs.declared.DigitalRegister.{DigitalRegister}
use Rattle.model.specs.declared.CommonRegister.{CommonRegister}
use Rattle.model.specs.declared.Reference.TheVariants.{None, Channel as ToChannel}
use Rattle.model.specs.declared.ServiceRegister.TheVariants.{Highest, Reset, FreeRunTimer, WDTimer, ModuleConfig, WDPreset, WriteEnable, CommonError}
use Rattle.model.specs.declared.DigitalRegister.TheVariants.{FlagReg, OutTimer, Counter, OutCurrent, OperatingTime, UserBytes, FBTimer, FBPreset}
use Rattle.model.specs.declared.DigitalRegister.TheVariants.{OutPreset, ChConfig, MinCurrent, MaxCurrent, UserReals, Maintenance, ChError}
use Rattle.model.specs.declared.CommonRegister.TheVariants.{OutFlags, InFlags, IOChError, ChError as CommonChError}
use Rattle.model.specs.State.{nothing, in_flag_of, out_flag_of, channel_at, put_channel, set_fb_status}
use Rattle.model.specs.Settings as Settings
use Rattle.model.specs.Settings.{reference_of, level_of}
use Rattle.model.specs.Registers.{place, digital_row}
use Rattle.model.specs.Image as Image
use Rattle.model.specs.Reads as Reads
use Rattle.model.specs.Writes as Writes
use Rattle.model.specs.Tick as Tick
use Rattle.model.specs.Tick.{levels}
use Rattle.model.specs.TwoLists.{names_of, names, among, stranger}
use Rattle.model.proofs.Laws.Tests.{either, both, left, right, range}
use Rattle.model.proofs.Laws.Lists.{length-each, at_each, at_map}
use Rattle.model.proofs.Laws.Places.{place-cases}
use Rattle.model.proofs.Laws.Inputs.{Inputs, inputs, taken, simulated, in-driven, in-tick, given, kept_if, time-kept-if, operated-in, tick-in}
use Rattle.model.proofs.Laws.InputRegisters.{write-in, in-written, in-read, every_in, in-every, common-in, in-common}

-- ---- names
abbrev pub Within : List ℕ → List ℕ → Type 0
Within ns [] = Unit {0}
Within ns (k ∷ ks) = T (among k ns) × Within ns ks

pub within-append : (ns ks ls : List ℕ) → Within ns (ks ++ ls) → Within ns ks × Within ns ls
within-append ns [] ls h = (tt, h)
within-append ns (k ∷ ks) ls h = let r = within-append ns ks ls h.1 in ((h.0, r.0), r.1)

within_all : (ns ks : List ℕ) → ((k : ℕ) → T (among k ks) → T (among k ns)) → Within ns ks
within_all ns [] h = tt
within_all ns (k ∷ ks) h = (h k (left (eqb k k) (among k ks) (eqb_refl k)), within_all ns ks (λ j t. h j (right (eqb j k) (among j ks) t)))

pub within-self : (ns : List ℕ) → Within ns ns
within-self ns = within_all ns ns (λ k t. t)

-- what it is to be a stranger
pub record Strange (c : ℕ) (ns : List ℕ) (k : ℕ) : Type 0 where
  pub low : 1 ≤ k
  pub high : k ≤ 16
  pub other : k ≢ c
  pub unnamed : ¬ T (among k ns)

pub stranger-facts : (c : ℕ) (ns : List ℕ) (k : ℕ) → stranger c ns k ≡ true → Strange c ns k
unfolding stranger
stranger-facts c ns k e =
    let (d, f) = both (Settings.is_digital k) (not (eqb k c) && not (among k ns)) e in
    let (g, h) = both (not (eqb k c)) (not (among k ns)) f in
    let (l, u) = range k d in
    record { low = l; high = u; other = eqb-false k c (not-true (eqb k c) g); unnamed = λ t. subst T (not-true (among k ns) h) t }

module _ (c : ℕ) (ns : List ℕ) where
  -- c's references are among ns
  abbrev pub Held : Inputs → Type 0
  Held n = Within ns (names n.config)

  -- the channels at place i of two boxes
  pub record Near (i : ℕ) (x y : Channel) : Type 0 where
    pub same : i ≡ c - 1 → x ≡ y
    pub held : i ≡ c - 1 → Held (inputs x)
    pub seen : T (among (suc i) ns) → inputs x ≡ inputs y

  -- the same rule on both sides
  pub near_by : {i : ℕ} {x y : Channel} (f : Channel → Channel) (F : Inputs → Inputs)
      → ((ch : Channel) → inputs (f ch) ≡ F (inputs ch)) → (i ≡ c - 1 → (n : Inputs) → Held n → Held (F n)) → Near i x y → Near i (f x) (f y)
  near_by {i} {x} {y} f F e h r =
      record {
        same = λ p. ap f (r.same p);
        held = λ p. subst Held (sym (e x)) (h p (inputs x) (r.held p));
        seen = λ t. e x ∙ ap F (r.seen t) ∙ sym (e y);
      }

  pub near-kept : {i : ℕ} {x y : Channel} (f : Channel → Channel) → ((ch : Channel) → inputs (f ch) ≡ inputs ch) → Near i x y → Near i (f x) (f y)
  near-kept f e r = near_by f (λ n. n) e (λ p n h. h) r

  pub record Channels (cs cs' : List Channel) : Type 0 where
    pub size : length cs ≡ 16
    pub size' : length cs' ≡ 16
    pub near : (i : ℕ) → i < 16 → Near i (get_or cs i nothing) (get_or cs' i nothing)

  abbrev pub Alike : Module → Module → Type 0
  Alike m m' = (m.shared ≡ m'.shared) × Channels m.channels m'.channels

  channels-each : (f : ℕ → Channel → Channel) {cs cs' : List Channel}
      → ((i : ℕ) (x y : Channel) → Near i x y → Near i (f i x) (f i y)) → Channels cs cs' → Channels (Writes.each f 0 cs) (Writes.each f 0 cs')
  channels-each f {cs} {cs'} h r =
      record {
        size = length-each f 0 cs ∙ r.size;
        size' = length-each f 0 cs' ∙ r.size';
        near = λ i l. rw (at_each f cs i (rw r.size l), at_each f cs' i (rw r.size' l)) (h i _ _ (r.near i l));
      }

  channels-map : (f g : Channel → Channel) {cs cs' : List Channel}
      → ((i : ℕ) (x y : Channel) → Near i x y → Near i (f x) (g y)) → Channels cs cs' → Channels (map f cs) (map g cs')
  channels-map f g {cs} {cs'} h r =
      record {
        size = length-map cs f ∙ r.size;
        size' = length-map cs' g ∙ r.size';
        near = λ i l. rw (at_map f nothing cs i (rw r.size l), at_map g nothing cs' i (rw r.size' l)) (h i _ _ (r.near i l));
      }

  channels-set : (i : ℕ) (x y : Channel) {cs cs' : List Channel} → (i < 16 → Near i x y) → Channels cs cs' → Channels (set cs i x) (set cs' i y)
  channels-set i x y {cs} {cs'} h r =
      record { size = length-set cs i x ∙ r.size; size' = length-set cs' i y ∙ r.size'; near = λ j l. go j l (ℕ_discrete j i) }
    where
      go : (j : ℕ) → j < 16 → Dec (j ≡ i) → Near j (get_or (set cs i x) j nothing) (get_or (set cs' i y) j nothing)
      go j l (yes e) = rw (e, get_or-set_same cs i x nothing (rw (r.size, ← e) l), get_or-set_same cs' i y nothing (rw (r.size', ← e) l)) (h (rw e at l))
      go j l (no d) = rw (get_or-set_other cs i j x nothing d, get_or-set_other cs' i j y nothing d) (r.near j l)

  -- a change on one side only, to a channel that c neither is nor may name
  channels-left : (i : ℕ) (x : Channel) {cs cs' : List Channel} → i ≢ c - 1 → ¬ T (among (suc i) ns) → Channels cs cs' → Channels (set cs i x) cs'
  channels-left i x {cs} {cs'} d u r =
      rw (set-get_or cs' i nothing) at
      (channels-set i x (get_or cs' i nothing) (λ l. record { same = λ e. absurd (d e); held = λ e. absurd (d e); seen = λ t. absurd (u t) }) r)

  pub held-taken : (who : Config → Bool) (b : Bool) (n : Inputs) → Held n → Held (taken who b n)
  unfolding taken given
  held-taken who b n h = either Held (who n.config) h h

  held-tick : (due : Bool) (n : Inputs) → Held n → Held (tick-in due n)
  unfolding tick-in time-kept-if kept_if operated-in
  held-tick due n h = h

  held-every : (r : ServiceRegister) (n : Inputs) → Held n → Held (every_in r n)
  unfolding every_in
  held-every Highest n h = h
  held-every Reset n h = h
  held-every FreeRunTimer n h = h
  held-every WDTimer n h = h
  held-every ModuleConfig n h = h
  held-every WDPreset n h = h
  held-every WriteEnable n h = h
  held-every CommonError n h = h

  held-common : (r : CommonRegister) (bs : List ℕ) (i : ℕ) (n : Inputs) → Held n → Held (common-in r bs i n)
  unfolding common-in
  held-common OutFlags bs i n h = h
  held-common InFlags bs i n h = held-taken simulated _ n h
  held-common IOChError bs i n h = h
  held-common CommonChError bs i n h = h

  -- a write of ChConfig names what its bytes name
  held-written : (r : DigitalRegister) (enabled : Bool) (bs : List ℕ) → ((digital_row r).number ≡ 9 → Within ns (names (Image.config_from bs))) → (n : Inputs)
      → Held n → Held (write-in r enabled bs n)
  unfolding write-in kept_if time-kept-if
  held-written FlagReg en bs w n h = held-taken simulated _ n h
  held-written OutTimer en bs w n h = h
  held-written Counter en bs w n h = h
  held-written OutCurrent en bs w n h = h
  held-written OperatingTime en bs w n h = h
  held-written UserBytes en bs w n h = h
  held-written FBTimer en bs w n h = h
  held-written FBPreset en bs w n h = h
  held-written OutPreset en bs w n h = h
  held-written ChConfig en bs w n h = w refl
  held-written MinCurrent en bs w n h = h
  held-written MaxCurrent en bs w n h = h
  held-written UserReals en bs w n h = h
  held-written Maintenance en bs w n h = h
  held-written ChError en bs w n h = h

  module _ (1≤c : 1 ≤ c) (m m' : Module) (a : Alike m m') where
    -- an accepted write, at any register, on both sides
    pub written-alike : (n : ℕ) (bs : List ℕ) → (n ≡ c * 0x10 + 0x9 → Within ns (names (Image.config_from bs))) → Alike (Writes.written (place n) bs m)
        (Writes.written (place n) bs m')
    unfolding Writes.written
    written-alike n bs w =
        place-cases (λ p. Alike (Writes.written p bs m) (Writes.written p bs m')) n a
        (λ e r q. (
          ap (Writes.shared_written r bs) a.0,
          channels-map _ _
              (λ i x y h. near_by (Writes.every_written r) (every_in r) (in-every r) (λ p. held-every r) h) a.1,
        ))
        (λ e r q. (
          a.0,
          channels-each _ (λ i x y h. near_by (Writes.common_written r bs i) (common-in r bs i) (in-common r bs i) (λ p. held-common r bs i) h)
              a.1,
        ))
        (λ e r q. a)
        (λ l₁ l₂ r q. (
          a.0,
          rw (← a.0)
              (channels-set (n / 16 - 1) _ _ (λ l. near_by (Writes.digital_written r m.shared bs) (write-in r m.shared.write_enable bs)
              (in-written r _ bs) (λ e. held-written r _ bs (λ z. w (omega arith))) (a.1.near _ l)) a.1),
        ))

    pub read_alike : (n : ℕ) → Alike (Reads.after_read (place n) m) (Reads.after_read (place n) m')
    unfolding Reads.after_read
    read_alike n =
        place-cases (λ p. Alike (Reads.after_read p m) (Reads.after_read p m')) n a
        (λ e r q. a)
        (λ e r q. a)
        (λ e r q. a)
        (λ l₁ l₂ r q. (a.0, channels-set (n / 16 - 1) _ _ (λ l. near-kept (Reads.digital_read r) (in-read r) (a.1.near _ l)) a.1))

    pub put-alike : (k : ℕ) (f : Channel → Channel) (F : Inputs → Inputs) → ((ch : Channel) → inputs (f ch) ≡ F (inputs ch)) → ((n : Inputs) → Held n → Held (F n))
        → Alike (put_channel k (f (channel_at m k)) m) (put_channel k (f (channel_at m' k)) m')
    put-alike k f F e h = (a.0, channels-set (k - 1) _ _ (λ l. near_by f F e (λ p. h) (a.1.near _ l)) a.1)

    -- InFlag of a reference that is among ns
    level-alike : (b : ℕ) → Within ns (names_of (reference_of b)) → level_of (levels m) (reference_of b) ≡ level_of (levels m') (reference_of b)
    unfolding reference_of
    level-alike b w = go (Settings.is_digital b) refl w
      where
        go : (t : Bool) → Settings.is_digital b ≡ t → Within ns (names_of (cond t (ToChannel b) None)) → level_of (levels m) (cond t (ToChannel b) None)
            ≡ level_of (levels m') (cond t (ToChannel b) None)
        go true e v =
            let (l₁, l₂) = range b e in
            ap (λ (x : Bool). Settings.is_digital b && x)
            (get_or-map in_flag_of m.channels (b - 1) nothing
            ∙ ap (λ (n : Inputs). n.level) ((a.1.near (b - 1) (omega arith)).seen (subst (λ (j : ℕ). T (among j ns)) (omega arith) v.0))
            ∙ sym (get_or-map in_flag_of m'.channels (b - 1) nothing))
        go false e v = refl

    -- InA and InB of a channel whose references are among ns
    pub inA-alike : (ch : Channel) → Held (inputs ch) → Settings.in_a (levels m) ch ≡ Settings.in_a (levels m') ch
    unfolding Settings.in_a names
    inA-alike ch h = ap (λ (x : Bool). cond (Settings.simulates_feedback ch) (out_flag_of ch) x)
        (level-alike ch.config.ref_a (within-append ns (names_of (reference_of ch.config.ref_a)) (names_of (reference_of ch.config.ref_b)) h).0)

    pub inB-alike : (ch : Channel) → Held (inputs ch) → Settings.in_b_of (levels m) ch ≡ Settings.in_b_of (levels m') ch
    unfolding Settings.in_b_of names
    inB-alike ch h = ap (λ (x : Bool). cond (Settings.simulates_feedback ch) (not (out_flag_of ch)) x)
        (level-alike ch.config.ref_b (within-append ns (names_of (reference_of ch.config.ref_a)) (names_of (reference_of ch.config.ref_b)) h).1)

    -- a register of c reads the same
    bytes-alike : (r : DigitalRegister) → Near (c - 1) (channel_at m c) (channel_at m' c) → Reads.digital_bytes r (levels m) (channel_at m c)
        ≡ Reads.digital_bytes r (levels m') (channel_at m' c)
    unfolding Reads.digital_bytes Reads.flag_reg
    bytes-alike FlagReg h = rw (inA-alike (channel_at m c) (h.held refl), inB-alike (channel_at m c) (h.held refl), h.same refl)
    bytes-alike OutTimer h = rw (h.same refl)
    bytes-alike Counter h = rw (h.same refl)
    bytes-alike OutCurrent h = rw (h.same refl)
    bytes-alike OperatingTime h = rw (h.same refl)
    bytes-alike UserBytes h = rw (h.same refl)
    bytes-alike FBTimer h = rw (h.same refl)
    bytes-alike FBPreset h = rw (h.same refl)
    bytes-alike OutPreset h = rw (h.same refl)
    bytes-alike ChConfig h = rw (h.same refl)
    bytes-alike MinCurrent h = rw (h.same refl)
    bytes-alike MaxCurrent h = rw (h.same refl)
    bytes-alike UserReals h = rw (h.same refl)
    bytes-alike Maintenance h = rw (h.same refl)
    bytes-alike ChError h = rw (h.same refl)

    pub value-alike : c ≤ 16 → (n : ℕ) → n / 16 ≡ c → Reads.bytes_read (place n) m ≡ Reads.bytes_read (place n) m'
    unfolding Reads.bytes_read
    value-alike c≤16 n e =
        place-cases (λ p. Reads.bytes_read p m ≡ Reads.bytes_read p m') n refl (λ z r q. absurd (omega arith)) (λ z r q. absurd (omega arith))
        (λ z r q. absurd (omega arith)) λ l₁ l₂ r q. rw e (bytes-alike r (a.1.near (c - 1) (omega arith)))

    -- a tick, where WDTimer is the same
    feedback-alike : (ch : Channel) → Held (inputs ch) → Tick.feedback_wrong (levels m) ch ≡ Tick.feedback_wrong (levels m') ch
    unfolding Tick.feedback_wrong
    feedback-alike ch h = rw (inA-alike ch h, inB-alike ch h)

    reviewed-alike : (s : Shared) (due : Bool) (ch : Channel) → Held (inputs ch) → Tick.reviewed s due (levels m) ch ≡ Tick.reviewed s due (levels m') ch
    unfolding Tick.reviewed Tick.looked
    reviewed-alike s due ch h =
        ap (λ (x : Bool). Tick.saved due (Tick.judged s (Tick.operated (cond (Tick.look_due s) (set_fb_status x ch) ch)))) (feedback-alike ch h)

    pub tick-alike : m.service.wd_timer ≡ m'.service.wd_timer → Alike (Tick.ticked m) (Tick.ticked m')
    unfolding Tick.ticked
    tick-alike e =
        let s = Tick.tick_shared m.shared in
        let due = Tick.save_due m.shared in
        let out = Tick.runs_out m.shared m.service.wd_timer in (
          ap Tick.tick_shared a.0,
          rw (← a.0, ← e) (channels-map _ _ (λ i x y h.
              record {
                same = λ p. reviewed-alike s due (Tick.driven s out x) (subst Held (sym (in-driven s out x)) (h.held p)) ∙ ap
                    (λ (z : Channel). Tick.reviewed s due (levels m') (Tick.driven s out z)) (h.same p);
                held = λ p. subst Held (sym (in-tick s due (levels m) out x)) (held-tick due (inputs x) (h.held p));
                seen = λ t. in-tick s due (levels m) out x ∙ ap (tick-in due) (h.seen t) ∙ sym (in-tick s due (levels m') out y);
              }) a.1),
        )

    -- a change to a stranger, on one side
    pub put-stranger : (k : ℕ) (ch : Channel) → stranger c ns k ≡ true → Alike (put_channel k ch m) m'
    put-stranger k ch e =
        let h = stranger-facts c ns k e in (
          a.0,
          channels-left (k - 1) ch (λ p. h.other (omega (arith, h.low)))
              (λ u. h.unnamed (subst (λ (j : ℕ). T (among j ns)) (omega (arith, h.low)) u)) a.1,
        )

    pub written-stranger : (n : ℕ) (bs : List ℕ) → stranger c ns (n / 16) ≡ true → Alike (Writes.written (place n) bs m) m'
    unfolding Writes.written
    written-stranger n bs e =
        let h = stranger-facts c ns (n / 16) e in
        place-cases (λ p. Alike (Writes.written p bs m) m') n a (λ z r q. absurd (omega (arith, h.low))) (λ z r q. absurd (omega (arith, h.high)))
        (λ z r q. absurd (omega (arith, h.high))) (λ l₁ l₂ r q. put-stranger (n / 16) _ e)

    pub read-stranger : (n : ℕ) → stranger c ns (n / 16) ≡ true → Alike (Reads.after_read (place n) m) m'
    unfolding Reads.after_read
    read-stranger n e =
        let h = stranger-facts c ns (n / 16) e in
        place-cases (λ p. Alike (Reads.after_read p m) m') n a (λ z r q. absurd (omega (arith, h.low))) (λ z r q. absurd (omega (arith, h.high)))
        (λ z r q. absurd (omega (arith, h.high))) (λ l₁ l₂ r q. put-stranger (n / 16) _ e)
