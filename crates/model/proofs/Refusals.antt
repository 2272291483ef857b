-- The number of a call is that of the first question answered no along its list of questions (`first-no`), whatever the list; and where a reply is a refusal, the
-- call computes to what the claim states. Assumes nothing.
use Rattle.std.specs.Prelude.{Ok, Err}
use mathlib.Core.Path.{◌≡◌, refl, sym, ◌∙◌, ap}
use mathlib.Core.Bool.{Bool, true, false, cond, ◌&&◌}
use mathlib.Core.List.{List, [], ◌∷◌, ◌++◌, append-nil}
use Prim.Native.Nat.{ℕ, zero, suc}
use native.Mathlib.Omega.{arith}
use lib.Dec.{T, leb}
use lib.Ieee.{Float, of_bits, to_bits, of_int, le, lt}
use Rattle.integers.specs.Bytes.{number, bytes_of, signed_number, signed_bytes}
use Rattle.integers.specs.Integers.{modulo, signed_bits}
use Rattle.numbers.specs.Reals.{real_from, real_bytes}
use Rattle.numbers.specs.Written.{from, up_to}
use Rattle.model.specs.declared.Channel.{Channel}
use Rattle.model.specs.declared.Module.{Module}
use Rattle.model.specs.Questions.{Reply}
use Rattle.model.specs.State.{write_enable_of}
use Rattle.model.specs.Registers.{Place, place}
use Rattle.model.specs.Image as Image
use Rattle.model.specs.Restored.{powered_up, zero_setup}
use Rattle.model.specs.Reads.{pairs_bytes}
use Rattle.model.specs.Writes.{shared_written, written}
use Rattle.model.specs.Questions.{Question, asked, refusal_number, number_of, read_questions, write_questions, sample_questions, look_up_questions}
use Rattle.model.specs.Questions.{minute_questions, windows_questions, minute_reply, windows_reply}
use Rattle.model.specs.Questions.{power_up_questions, store_questions, read_reply, write_reply, sample_reply, look_up_reply, power_up_reply, store_reply}
use Rattle.model.specs.Calls.{Request, read, write, sample, look_up, minute, windows, tick, sort_of, step, cleared, watchdog_preset, then_preset, read_as}
use Rattle.model.specs.Calls.{written_as_of, looked_up_as, minute_as}
use Rattle.model.specs.Calls.{plain_answer, sampled_as, power_up, powered_up_as, power_up_answer, store_fills, stored, store_answer}
use Rattle.model.specs.Refusals.{Asked, AllYes, FirstNo, Decides, Decided, Refusals, wire_refused, plainly_refused, refused_by, InOrder}

none : {A : Type 0} {n : ℕ} → 0 ≡ suc n → A
none h = absurd (omega arith)

-- ---- the first question whose answer is no
-- its number, or 0
abbrev first-no : List Asked → ℕ
first-no [] = 0
first-no (q ∷ qs) = cond q.yes (first-no qs) q.number

-- it is this one, or a later one
here : (q : Asked) (qs : List Asked) (n : ℕ) → q.yes ≡ false → q.number ≡ n → FirstNo (q ∷ qs) n
here q qs n answer e = record { before = []; question = q; after = qs; order = refl; yes = tt; no = answer; is = e }

further : (q : Asked) (qs : List Asked) (n : ℕ) → q.yes ≡ true → FirstNo qs n → FirstNo (q ∷ qs) n
further q qs n answer f =
    record {
      before = q ∷ f.before;
      question = f.question;
      after = f.after;
      order = ap (λ (l : List Asked). q ∷ l) f.order;
      yes = (answer, f.yes);
      no = f.no;
      is = f.is;
    }

-- by what this one answers
found : (b : Bool) (q : Asked) (qs : List Asked) (n : ℕ) → q.yes ≡ b → (first-no qs ≡ suc n → FirstNo qs (suc n)) →
    cond b (first-no qs) q.number ≡ suc n → FirstNo (q ∷ qs) (suc n)
found true q qs n e later h = further q qs (suc n) e (later h)
found false q qs n e later h = here q qs (suc n) e h

only : (qs : List Asked) (n : ℕ) → first-no qs ≡ suc n → FirstNo qs (suc n)
only [] n h = none h
only (q ∷ qs) n h = found q.yes q qs n refl (only qs n) h

-- yes goes on to the questions after it
passed : (before qs : List Asked) → AllYes before → first-no (before ++ qs) ≡ first-no qs
passed [] qs all = refl
passed (q ∷ before) qs all = rw all.0 (passed before qs all.1)

refused : (qs : List Asked) (n : ℕ) → FirstNo qs n → first-no qs ≡ n
refused qs n f = rw (f.order, passed f.before (f.question ∷ f.after) f.yes, f.no, f.is)

done : (qs : List Asked) → AllYes qs → first-no qs ≡ 0
done qs all = rw append-nil at (passed qs [] all)

-- no question has the number 0, so 0 is given only where all are yes
abbrev numbered : List Asked → Bool
numbered [] = true
numbered (q ∷ qs) = leb 1 q.number && numbered qs

all_yes : (b : Bool) (q : Asked) (qs : List Asked) → q.yes ≡ b → T (leb 1 q.number && numbered qs) → (T (numbered qs) → first-no qs ≡ 0 → AllYes qs) →
    cond b (first-no qs) q.number ≡ 0 → AllYes (q ∷ qs)
all_yes true q qs e t later h = (e, later (rest (leb 1 q.number) t) h)
  where
    rest : (p : Bool) → T (p && numbered qs) → T (numbered qs)
    rest true t = t
    rest false t = absurd t
all_yes false q qs e t later h = absurd (no_zero q.number h t)
  where
    no_zero : (n : ℕ) → n ≡ 0 → T (leb 1 n && numbered qs) → ⊥
    no_zero zero h t = t
    no_zero (suc n) h t = none (sym h)

all : (qs : List Asked) → T (numbered qs) → first-no qs ≡ 0 → AllYes qs
all [] t h = tt
all (q ∷ qs) t h = all_yes q.yes q qs refl t (all qs) h

decides : (qs : List Asked) (n : ℕ) → T (numbered qs) → n ≡ first-no qs → Decides qs n
decides qs n t e =
    record {
      refused = λ k f. e ∙ refused qs k f;
      only = λ k h. only qs k (sym e ∙ h);
      done = λ a. e ∙ done qs a;
      all = λ h. all qs t (sym e ∙ h);
    }

-- the questions of a reply, by the numbers of their refusals
abbrev by_number : List Question → List Asked
by_number [] = []
by_number (q ∷ qs) = record { number = refusal_number q.refusal; yes = q.yes } ∷ by_number qs

number_is : (qs : List Question) (n : ℕ) → number_of (asked qs (Ok n)) ≡ first-no (by_number qs)
number_is [] n = refl
number_is (q ∷ qs) n = go q.yes (number_is qs n)
  where
    go : (b : Bool) → number_of (asked qs (Ok n)) ≡ first-no (by_number qs) → number_of (cond b (asked qs (Ok n)) (Err q.refusal)) ≡ cond b
        (first-no (by_number qs)) (refusal_number q.refusal)
    go true later = later
    go false later = refl

decided : Decided
unfolding step read_reply write_reply sample_reply look_up_reply minute_reply windows_reply power_up_answer power_up_reply store_answer store_reply
decided =
    record {
      reads = λ m n lent. decides _ _ tt (number_is (read_questions n (place n) lent) _);
      writes = λ m n bs. decides _ _ tt (number_is (write_questions (write_enable_of m.shared) n (place n) bs) 0);
      samples = λ m k b x. decides _ _ tt (number_is (sample_questions k x) 0);
      look_ups = λ m k x. decides _ _ tt (number_is (look_up_questions k x) 0);
      minutes = λ m n. decides _ _ tt (number_is (minute_questions n) 0);
      windows_calls = λ m k ws. decides _ _ tt (number_is (windows_questions k ws) 0);
      power_ups = λ img. decides _ _ tt (number_is (power_up_questions img) 0);
      stores = λ m lent. decides _ _ tt (number_is (store_questions lent) _);
    }

-- ---- what a refused call leaves
read-refused : (r : Reply) (p : Place) (lent : List ℕ) (m : Module) (n : ℕ) → number_of r ≡ suc n → then_preset (read_as r p lent (cleared m)) ≡ wire_refused m
    (suc n) lent
read-refused (Ok k) p lent m n h = none h
read-refused (Err q) p lent m n h = rw h

write-refused : (r : Reply) (p : Place) (bs : List ℕ) (m : Module) (n : ℕ) → number_of r ≡ suc n → then_preset (written_as_of r p bs (cleared m)) ≡ wire_refused m
    (suc n) []
write-refused (Ok k) p bs m n h = none h
write-refused (Err q) p bs m n h = rw h

sample-refused : (r : Reply) (k : ℕ) (ch : Channel) (m : Module) (n : ℕ) → number_of r ≡ suc n → sampled_as r k ch m ≡ plainly_refused m (suc n)
sample-refused (Ok i) k ch m n h = none h
sample-refused (Err q) k ch m n h = rw h

look-up-refused : (r : Reply) (i : ℕ) (x : Float) (m : Module) (n : ℕ) → number_of r ≡ suc n → looked_up_as r i x m ≡ plainly_refused m (suc n)
look-up-refused (Ok k) i x m n h = none h
look-up-refused (Err q) i x m n h = rw h

minute-refused : (r : Reply) (i : ℕ) (m : Module) (n : ℕ) → number_of r ≡ suc n → minute_as r i m ≡ plainly_refused m (suc n)
minute-refused (Ok k) i m n h = none h
minute-refused (Err q) i m n h = rw h

unchanged : (m : Module) (x : Request) (n : ℕ) → (step m x).answer.number ≡ suc n → step m x ≡ refused_by (sort_of x) m (suc n)
unfolding step
unchanged m (read n lent) k h = read-refused (read_reply n (place n) lent) (place n) lent m k h
unchanged m (write n bs) k h = write-refused (write_reply (write_enable_of m.shared) n (place n) bs) (place n) bs m k h
unchanged m (sample i b x) k h = sample-refused (sample_reply i x) i _ m k h
unchanged m (look_up i x) k h = look-up-refused (look_up_reply i x) i x m k h
unchanged m (minute i) k h = minute-refused (minute_reply i) i m k h
unchanged m (windows i ws) k h = sample-refused (windows_reply i ws) i _ m k h
unchanged m tick k h = none h

-- ---- power-up and storing
start : (img : List ℕ) (n : ℕ) → (power_up_answer img).number ≡ suc n → power_up img ≡ powered_up zero_setup
unfolding power_up power_up_answer
start img n h = go (power_up_reply img) h
  where
    go : (r : Reply) → number_of r ≡ suc n → powered_up_as r img ≡ powered_up zero_setup
    go (Ok k) h = none h
    go (Err q) h = refl

store : (m : Module) (lent : List ℕ) (n : ℕ) → (store_answer m lent).number ≡ suc n →
    store_answer m lent ≡ record { number = suc n; length = 0; buffer = lent; data_error = false; general_error = false; real_bits = 0 }
unfolding stored store_answer
store m lent n h = go (store_reply lent) h
  where
    go : (r : Reply) → number_of r ≡ suc n →
        plain_answer r (store_fills r lent m) ≡ record { number = suc n; length = 0; buffer = lent; data_error = false; general_error = false; real_bits = 0 }
    go (Ok k) h = none h
    go (Err q) h = rw h

pub refusals : Refusals
refusals = record { decided = decided; unchanged = unchanged; start = start; store = store }

-- ---- an instance of every number, by computation
pub in_order : InOrder
unfolding step place read_reply write_reply sample_reply look_up_reply minute_reply windows_reply power_up_reply store_reply power_up_answer store_answer written shared_written cleared
    watchdog_preset powered_up Image.config_allowed Image.module_config_allowed Image.size_right Image.counts_right Image.sum_right Image.values_allowed
    Image.entries_allowed Image.entry_allowed Image.encode Image.framed Image.summed Image.setup_from Image.version Image.split Image.contents Image.kept_bytes
    Image.kept_from Image.pairs_from Image.pairs_allowed Image.kept_allowed Image.counts_match Image.all_allowed Image.module_allowed Image.entries_bytes
    Image.entry_bytes Image.decode Image.entries_from Image.entry_from number pairs_bytes bytes_of signed_number signed_bytes modulo signed_bits real_from real_bytes
    from up_to of_bits to_bits of_int le lt
in_order =
    record {
      number1 = λ m. refl;
      number2 = λ m. refl;
      number3 = λ m. refl;
      number4 = refl;
      number5 = λ m. refl;
      number6 = refl;
      number7 = refl;
      number8 = λ m. refl;
      number8_first = λ m. refl;
      number9 = λ m. refl;
      number10 = refl;
      number11 = refl;
      number12 = refl;
      number13 = refl;
      number14 = λ m. refl;
      number15 = λ m. refl;
      number7_lookup = λ m. refl;
      number18 = λ m. refl;
      number18_start = λ m. refl;
      number18_end = λ m. refl;
      number19 = λ m. refl;
      number8_windows = λ m. refl;
      done_minute = λ m. refl;
      done_windows = λ m. refl;
      done_no_windows = λ m. refl;
      number2_first = λ m. refl;
      done = refl;
      done_image = refl;
    }
