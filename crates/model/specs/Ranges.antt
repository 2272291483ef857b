-- Facts over whole ranges: every byte of Functions, of a reference, of Enablebit, of ModuleConfig, WriteEnable and Reset, every channel of a sample, and every
-- channel's bit of the words. The proof is in proofs/Ranges.antt.
use Rattle.std.specs.Prelude.{◌≡◌, Bool, true, false, List, [], ◌∷◌, ◌++◌, map, ℕ, zero, suc, ◌+◌, ◌-◌, ◌*◌, ◌/◌, ◌%◌, ◌^◌, max, replicate, set}
use Rattle.model.specs.declared.Function.{Function}
use Rattle.model.specs.declared.Channel.{Channel}
use Rattle.model.specs.declared.Module.{Module}
use Rattle.model.specs.declared.Function.TheVariants.{Input, Output, OneShot, DutyCycle, Timer}
use Rattle.model.specs.declared.Reference.TheVariants.{None, Channel as ToChannel}
use Rattle.model.specs.State.{channel_at, out_flag_of, in_flag_of, set_out_flag}
use Rattle.model.specs.Settings.{function_of, reference_of, simulates_input, simulates_feedback, enables_underload, silences_overload, output}
use Rattle.model.specs.Channel.{flag_reg_written}
use Rattle.model.specs.Registers.{place}
use Rattle.model.specs.Reads.{flag_reg}
use Rattle.model.specs.Questions.{question7, question8}
use Rattle.model.specs.Calls.{read, write, step}
use Rattle.model.specs.Listed.{numbers}
use Rattle.model.specs.Worked.{one, two, four, sampled, box_of, entry}

-- every byte, and a list with x at each of these places
abbrev pub bytes : List ℕ
bytes = numbers 0 256

abbrev pub except : {A : Type 0} → List ℕ → A → List A → List A
except [] x l = l
except (n ∷ ns) x l = except ns x (set l n x)

abbrev pub function_of_every : List Function
function_of_every =
    except (0x10 ∷ []) Output (except (0x20 ∷ []) OneShot (except (0x30 ∷ []) DutyCycle (except (0x50 ∷ []) Timer (replicate 256 Input))))

-- n times a list
abbrev pub times : {A : Type 0} → ℕ → List A → List A
times zero l = []
times (suc n) l = l ++ times n l

-- bit k of every byte: 2 ^ k that lack it, 2 ^ k that have it, and so on
abbrev pub bit_of_every : ℕ → List Bool
bit_of_every k = times (2 ^ (7 - k)) (replicate (2 ^ k) false ++ replicate (2 ^ k) true)

-- a channel with this Enablebit, and whether a byte may be written at place i of the four bytes of a register
abbrev pub enabled_by : ℕ → Channel
enabled_by e = channel_at (box_of 0 0 (entry (e * 16777216) 0 0 ∷ [])) 1

abbrev pub may_hold : ℕ → ℕ → ℕ → Bool
may_hold n i b = question7 (place n) (set (four 0) i b)

abbrev pub may : ℕ → ℕ → Bool
may n b = question7 (place n) (one b)

-- whether a channel with this Functions byte drives its terminal, where OutFlag is b
abbrev pub drives : Bool → ℕ → Bool
drives b f = output (set_out_flag b (channel_at (box_of 0 0 (entry (f * 65536) 0 0 ∷ [])) 1))

-- ---- words: sixteen outputs with simulated input, the watchdog off
abbrev pub outputs : Module
outputs = box_of 0x0010_0000 0 (replicate 16 (entry 0x0110_0000 0 0))

-- the box after a write of 2 ^ i to OutFlags or InFlags, and after an overload of channel k
abbrev pub after_word : ℕ → ℕ → Module
after_word n i = (step outputs (write n (two (2 ^ i)))).box

abbrev pub overload_on : ℕ → Module
overload_on k = (step outputs (sampled k false 0x4040_0000)).box

-- what a read gives
abbrev pub given : ℕ → ℕ → Module → List ℕ
given n size m = (step m (read n (replicate size 0))).answer.buffer

-- channel i + 1 alone
abbrev pub only_at : ℕ → List Bool
only_at i = except (i ∷ []) true (replicate 16 false)

-- ComHis or ComAct with channel k's bit and the common channel's, the low byte first
abbrev pub com_of : ℕ → List ℕ
com_of k = (2 ^ k % 256) ∷ (2 ^ k / 256 % 256) ∷ (2 ^ k / 65536 + 2) ∷ 0 ∷ []

-- ---- FlagReg: a channel with these Functions and simulated input, and what FlagReg gives after a write of b
abbrev pub after_flags : ℕ → ℕ → ℕ
after_flags functions b = flag_reg [] (flag_reg_written b (channel_at (box_of 0 0 (entry (0x0100_0000 + functions * 65536) 0 0 ∷ [])) 1))

-- bit k of b, worth 2 ^ to
abbrev pub bit_to : ℕ → ℕ → ℕ → ℕ
bit_to k to b = b / 2 ^ k % 2 * 2 ^ to

pub record Ranges : Type 0 where
  -- A channel 3 and 6: the function of every byte, and Head 4 and A channel 5: the channel
  pub functions : map function_of bytes ≡ function_of_every
  pub references : map reference_of bytes ≡ None ∷ (map ToChannel (numbers 1 16) ++ replicate 239 None)
  pub samples : map question8 bytes ≡ false ∷ (replicate 16 true ++ replicate 239 false)
  -- A channel 2: Output, where OutFlag is TRUE and where it is not
  pub outputs_on : map (drives true) bytes ≡ except (0x10 ∷ 0x20 ∷ 0x30 ∷ 0x50 ∷ []) true (replicate 256 false)
  pub outputs_off : map (drives false) bytes ≡ replicate 256 false
  -- A channel 4: the four bits of Enablebit, in every byte
  pub bit0 : map (λ e. simulates_input (enabled_by e)) bytes ≡ bit_of_every 0
  pub bit2 : map (λ e. simulates_feedback (enabled_by e)) bytes ≡ bit_of_every 2
  pub bit5 : map (λ e. enables_underload (enabled_by e)) bytes ≡ bit_of_every 5
  pub bit6 : map (λ e. silences_overload (enabled_by e)) bytes ≡ bit_of_every 6
  -- question 7: every byte of ChConfig and of ModuleConfig at its place
  pub enable_bytes : map (may_hold 0x19 0) bytes ≡ replicate 256 true
  pub function_bytes : map (may_hold 0x19 1) bytes ≡ except (0x00 ∷ 0x10 ∷ 0x20 ∷ 0x30 ∷ 0x50 ∷ []) true (replicate 256 false)
  pub ref_a_bytes : map (may_hold 0x109 2) bytes ≡ replicate 17 true ++ replicate 239 false
  pub ref_b_bytes : map (may_hold 0x19 3) bytes ≡ replicate 17 true ++ replicate 239 false
  pub module_functions : map (may_hold 0x09 1) bytes ≡ except (0x00 ∷ 0x10 ∷ []) true (replicate 256 false)
  pub module_others : map (λ i. map (may_hold 0x09 i) bytes) (0 ∷ 2 ∷ 3 ∷ []) ≡ replicate 3 (replicate 256 true)
  -- of Reset, WriteEnable and FlagReg
  pub resets : map (may 0x03) bytes ≡ replicate 255 false ++ (true ∷ [])
  pub enables : map (may 0x0D) bytes ≡ true ∷ (true ∷ replicate 254 false)
  pub flags : map (may 0x10) bytes ≡ replicate 256 true
  -- Common $110 to $112, Registers 5: bit k - 1 for channel k, in OutFlags, InFlags and IOChError; bit k in CommonError
  pub out_bits : map (λ i. map out_flag_of (after_word 0x110 i).channels) (numbers 0 16) ≡ map only_at (numbers 0 16)
  pub in_bits : map (λ i. map in_flag_of (after_word 0x111 i).channels) (numbers 0 16) ≡ map only_at (numbers 0 16)
  pub out_words : map (λ i. given 0x110 2 (after_word 0x110 i)) (numbers 0 16) ≡ map (λ i. two (2 ^ i)) (numbers 0 16)
  pub in_words : map (λ i. given 0x111 2 (after_word 0x111 i)) (numbers 0 16) ≡ map (λ i. two (2 ^ i)) (numbers 0 16)
  pub error_words : map (λ k. given 0x112 4 (overload_on k)) (numbers 1 16) ≡ map (λ i. two (2 ^ i) ++ two (2 ^ i)) (numbers 0 16)
  pub common_errors : map (λ k. given 0x0F 12 (overload_on k)) (numbers 1 16) ≡ map (λ k. four 0x8100_0100 ++ (com_of k ++ com_of k)) (numbers 1 16)
  -- A channel 1, 12 and 13: FlagReg after every byte written: a one-shot takes bits 7, 6 and 3, an output 7 and 6, an input 6; a set bit that is not taken
  -- shows in bit 1
  pub one_shot_flags : map (after_flags 0x20) bytes ≡ map (λ b. bit_to 7 7 b + bit_to 6 6 b + bit_to 3 3 b) bytes
  pub output_flags : map (after_flags 0x10) bytes ≡ map (λ b. bit_to 7 7 b + bit_to 6 6 b + bit_to 3 1 b) bytes
  pub input_flags : map (after_flags 0x00) bytes ≡ map (λ b. bit_to 6 6 b + max (bit_to 7 1 b) (bit_to 3 1 b)) bytes
