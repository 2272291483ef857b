-- What counts of time mean: their units, and how a tick moves them.
pub mod Counts
pub mod Claims
