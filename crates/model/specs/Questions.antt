-- Document 01, Questions 1 to 15, and document 02, Change 1, 14, Change 3, 3, and Change 6, 6 and 7: each question, the first whose answer is no, and the number
-- and values of every answer. Definitions only.
use Rattle.std.specs.Prelude.{Bool, true, false, not, cond, ◌&&◌, ◌||◌, List, [], ◌∷◌, ℕ, eqb, leb, length, Float, Result, Ok, Err}
use Rattle.std.specs.Float.Ieee.Scale.{finite}
use Rattle.model.specs.declared.Access.{Access}
use Rattle.model.specs.declared.Refusal.{Refusal}
use Rattle.model.specs.declared.Access.TheVariants.{ReadOnly, Writable, Protected}
use Rattle.model.specs.declared.Refusal.TheVariants.{Beyond, Unlisted, NotWritable, WrongLength, BufferTooShort, NotEnabled, NotAllowed}
use Rattle.model.specs.declared.Refusal.TheVariants.{NoChannel, NotFinite, ImageLength, ImageCounts, ImageSum, ImageValues, NoRoom, NoTable}
use Rattle.model.specs.declared.Refusal.TheVariants.{NotMinute, TooManyWindows}
use Rattle.model.specs.Hours.{is_minute, window_of}
use Rattle.model.specs.Settings.{is_digital}
use Rattle.model.specs.Registers.{Place, service, digital, common, data_channel, unlisted, access, size, highest_swno}
use Rattle.model.specs.Writes.{allowed}
use Rattle.model.specs.Image.{size_right, counts_right, sum_right, values_allowed, image_size}

-- ---- the number and the length of every answer
-- what a call answers: done, with a length, or refused
abbrev pub Reply : Type 0
Reply = Result ℕ Refusal

-- the question that each refusal stands for
abbrev pub refusal_number : Refusal → ℕ
refusal_number Beyond = 1
refusal_number Unlisted = 2
refusal_number NotWritable = 3
refusal_number WrongLength = 4
refusal_number BufferTooShort = 5
refusal_number NotEnabled = 6
refusal_number NotAllowed = 7
refusal_number NoChannel = 8
refusal_number NotFinite = 9
refusal_number ImageLength = 10
refusal_number ImageCounts = 11
refusal_number ImageSum = 12
refusal_number ImageValues = 13
refusal_number NoRoom = 14
refusal_number NoTable = 15
refusal_number NotMinute = 18
refusal_number TooManyWindows = 19

-- Calls 5: 0 where the call is done
abbrev pub number_of : Reply → ℕ
number_of (Ok n) = 0
number_of (Err r) = refusal_number r

-- Calls 5 and 8: 0 where it is refused
abbrev pub length_of : Reply → ℕ
length_of (Ok n) = n
length_of (Err r) = 0

-- whether a call is done
abbrev pub accepted : Reply → Bool
accepted (Ok n) = true
accepted (Err r) = false

-- a question: whether its answer is yes, and the refusal where it is no
pub record Question : Type 0 where
  pub yes : Bool
  pub refusal : Refusal

infix 20 ◌else◌
abbrev pub ◌else◌ : Bool → Refusal → Question
b else r = record { yes = b; refusal = r }

-- the refusal of the first question whose answer is no, or else `done`
abbrev pub asked : List Question → Reply → Reply
asked [] done = done
asked (q ∷ qs) done = cond q.yes (asked qs done) (Err q.refusal)

-- ---- wire calls, on the SWNo and the place that it names
abbrev pub question1 : ℕ → Bool
question1 n = leb n highest_swno

abbrev pub question2 : Place → Bool
question2 (service r) = true
question2 (digital k r) = true
question2 (common r) = true
question2 (data_channel r) = true
question2 unlisted = false

abbrev pub is_writable : Access → Bool
is_writable ReadOnly = false
is_writable Writable = true
is_writable Protected = true

abbrev pub is_protected : Access → Bool
is_protected ReadOnly = false
is_protected Writable = false
is_protected Protected = true

abbrev pub question3 : Place → Bool
question3 p = is_writable (access p)

abbrev pub question4 : Place → List ℕ → Bool
question4 p bs = eqb (length bs) (size p)

abbrev pub question5 : Place → List ℕ → Bool
question5 p lent = leb (size p) (length lent)

-- of WriteEnable
abbrev pub question6 : Bool → Place → Bool
question6 enable p = not (is_protected (access p)) || enable

abbrev pub question7 : Place → List ℕ → Bool
question7 p bs = allowed p bs

abbrev pub read_questions : ℕ → Place → List ℕ → List Question
read_questions n p lent = (question1 n else Beyond) ∷ (question2 p else Unlisted) ∷ (question5 p lent else BufferTooShort) ∷ []

unfoldable pub read_reply : ℕ → Place → List ℕ → Reply
read_reply n p lent = asked (read_questions n p lent) (Ok (size p))

abbrev pub write_questions : Bool → ℕ → Place → List ℕ → List Question
write_questions enable n p bs =
    (question1 n else Beyond) ∷ (question2 p else Unlisted) ∷ (question3 p else NotWritable) ∷ (question4 p bs else WrongLength)
    ∷ (question6 enable p else NotEnabled) ∷ (question7 p bs else NotAllowed) ∷ []

unfoldable pub write_reply : Bool → ℕ → Place → List ℕ → Reply
write_reply enable n p bs = asked (write_questions enable n p bs) (Ok 0)

-- ---- samples. Change 3, 3: 8 of the channel, then 9 of the current
abbrev pub question8 : ℕ → Bool
question8 k = is_digital k

abbrev pub question9 : Float → Bool
question9 x = finite x

abbrev pub sample_questions : ℕ → Float → List Question
sample_questions k x = (question8 k else NoChannel) ∷ (question9 x else NotFinite) ∷ []

unfoldable pub sample_reply : ℕ → Float → Reply
sample_reply k x = asked (sample_questions k x) (Ok 0)

-- ---- lookups. Change 1, 14: 15 of the table's number, then 7 of X
abbrev pub question15 : ℕ → Bool
question15 k = eqb k 1 || eqb k 2

abbrev pub look_up_questions : ℕ → Float → List Question
look_up_questions k x = (question15 k else NoTable) ∷ (finite x else NotAllowed) ∷ []

unfoldable pub look_up_reply : ℕ → Float → Reply
look_up_reply k x = asked (look_up_questions k x) (Ok 0)

-- ---- opening hours. Change 6, 6 and 7: 18 of a minute, and of every start and end; for windows 8, 19, then 18
abbrev pub question18 : ℕ → Bool
question18 n = is_minute n

abbrev pub minute_questions : ℕ → List Question
minute_questions n = (question18 n else NotMinute) ∷ []

unfoldable pub minute_reply : ℕ → Reply
minute_reply n = asked (minute_questions n) (Ok 0)

abbrev pub question19 : List ℕ → Bool
question19 ws = leb (length ws) 8

abbrev pub are_minutes : List ℕ → Bool
are_minutes [] = true
are_minutes (w ∷ ws) = (question18 (window_of w).start && question18 (window_of w).end) && are_minutes ws

abbrev pub windows_questions : ℕ → List ℕ → List Question
windows_questions k ws = (question8 k else NoChannel) ∷ (question19 ws else TooManyWindows) ∷ (are_minutes ws else NotMinute) ∷ []

unfoldable pub windows_reply : ℕ → List ℕ → Reply
windows_reply k ws = asked (windows_questions k ws) (Ok 0)

-- ---- power-up, 10 to 13, and storing, 14
abbrev pub power_up_questions : List ℕ → List Question
power_up_questions img =
    (size_right img else ImageLength) ∷ (counts_right img else ImageCounts) ∷ (sum_right img else ImageSum) ∷ (values_allowed img else ImageValues) ∷ []

unfoldable pub power_up_reply : List ℕ → Reply
power_up_reply img = asked (power_up_questions img) (Ok 0)

abbrev pub question14 : List ℕ → Bool
question14 lent = leb image_size (length lent)

abbrev pub store_questions : List ℕ → List Question
store_questions lent = (question14 lent else NoRoom) ∷ []

-- Questions 15: the length of what is stored
unfoldable pub store_reply : List ℕ → Reply
store_reply lent = asked (store_questions lent) (Ok image_size)
