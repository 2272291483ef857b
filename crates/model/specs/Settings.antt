-- Document 01, A channel 2 to 7: what a channel's settings say. Definitions only.
use Rattle.std.specs.Prelude.{Bool, true, false, not, cond, ◌&&◌, ◌||◌, List, ℕ, ◌-◌, ◌/◌, ◌%◌, ◌^◌, eqb, leb, get_or}
use Rattle.model.specs.declared.Channel.{Channel}
use Rattle.model.specs.declared.Function.{Function}
use Rattle.model.specs.declared.Reference.{Reference}
use Rattle.model.specs.declared.Function.TheVariants.{Input, Output, OneShot, DutyCycle, Timer}
use Rattle.model.specs.declared.Reference.TheVariants.{None, Channel as ToChannel}
use Rattle.model.specs.State.{out_flag_of, terminal}

-- bit k of a number
abbrev pub bit : ℕ → ℕ → Bool
bit k n = eqb (n / 2 ^ k % 2) 1

-- Head 4: the numbers of the digital channels
abbrev pub is_digital : ℕ → Bool
is_digital k = leb 1 k && leb k 16

-- A channel 3 and 6: the five functions by their bytes; every other byte acts as 0
unfoldable pub function_of : ℕ → Function
function_of n = cond (eqb n 0x10) Output (cond (eqb n 0x20) OneShot (cond (eqb n 0x30) DutyCycle (cond (eqb n 0x50) Timer Input)))

-- Functions is not 0
abbrev pub not_input : Function → Bool
not_input Input = false
not_input Output = true
not_input OneShot = true
not_input DutyCycle = true
not_input Timer = true

-- neither 0 nor $10: a special function drives the output
abbrev pub is_special : Function → Bool
is_special Input = false
is_special Output = false
is_special OneShot = true
is_special DutyCycle = true
is_special Timer = true

-- A channel 5: a reference byte names a digital channel or none
unfoldable pub reference_of : ℕ → Reference
reference_of n = cond (is_digital n) (ToChannel n) None

-- A channel 6: a reference that holds any other number acts as none
abbrev pub is_set : Reference → Bool
is_set None = false
is_set (ToChannel k) = is_digital k

abbrev pub functions : Channel → Function
functions ch = function_of ch.config.functions

abbrev pub ref_a : Channel → Reference
ref_a ch = reference_of ch.config.ref_a

abbrev pub ref_b_of : Channel → Reference
ref_b_of ch = reference_of ch.config.ref_b

-- one reference at least is set
abbrev pub has_reference : Channel → Bool
has_reference ch = is_set (ref_a ch) || is_set (ref_b_of ch)

-- A channel 4: the four bits of Enablebit that act
abbrev pub simulates_input : Channel → Bool
simulates_input ch = bit 0 ch.config.enablebit

abbrev pub simulates_feedback : Channel → Bool
simulates_feedback ch = bit 2 ch.config.enablebit

abbrev pub enables_underload : Channel → Bool
enables_underload ch = bit 5 ch.config.enablebit

abbrev pub silences_overload : Channel → Bool
silences_overload ch = bit 6 ch.config.enablebit

-- A channel 7: InFlag of a reference, where `levels` are the InFlags of channels 1 to 16; 0 where there is none
abbrev pub level_of : List Bool → Reference → Bool
level_of levels None = false
level_of levels (ToChannel k) = is_digital k && get_or levels (k - 1) false

-- A channel 7: InA and InB; simulated feedback comes before the references
unfoldable pub in_a : List Bool → Channel → Bool
in_a levels ch = cond (simulates_feedback ch) (terminal ch) (level_of levels (ref_a ch))

unfoldable pub in_b_of : List Bool → Channel → Bool
in_b_of levels ch = cond (simulates_feedback ch) (not (terminal ch)) (level_of levels (ref_b_of ch))

-- A channel 2: whether the terminal is driven
unfoldable pub output : Channel → Bool
output ch = out_flag_of ch && not_input (functions ch)
