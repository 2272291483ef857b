-- The bits of step 6 that the load and the terminals decide, bits 5 to 2, by the model's rules of each. Definitions only.
use Rattle.std.specs.Prelude.{ℕ}
use Rattle.std.specs.Int.Bits.{bit_or}
use Rattle.model.specs.declared.Channel.{Channel}
use Rattle.model.specs.declared.Shared.{Shared}
use Rattle.model.specs.Channel.{under_load, external_short_cir, internal_short_cir, internal_disconnection}
use Rattle.model.specs.Tick.{weight, underloaded, shorted_outside, shorted_inside, is_disconnected}

unfoldable pub load_bits : Shared → Channel → ℕ
load_bits s ch =
    bit_or (weight under_load (underloaded ch))
    (bit_or (weight external_short_cir (shorted_outside ch))
    (bit_or (weight internal_short_cir (shorted_inside s ch)) (weight internal_disconnection (is_disconnected ch))))
