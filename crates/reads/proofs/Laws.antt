pub mod Held
pub mod Readings
