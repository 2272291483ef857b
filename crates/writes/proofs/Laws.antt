pub mod Accepted
pub mod Begun
