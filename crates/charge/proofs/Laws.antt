pub mod Blocks
pub mod Held
pub mod Loops
pub mod Tariffs
pub mod Readings
