pub mod Lengths
pub mod Turns
