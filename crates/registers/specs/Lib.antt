-- The code's place of a register beside the model's; and a channel's place among the sixteen.
pub mod Places
