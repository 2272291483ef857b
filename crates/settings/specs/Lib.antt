-- The InFlags of all channels as one number, by which references are looked up.
pub mod Levels
