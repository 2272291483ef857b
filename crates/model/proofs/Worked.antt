-- The worked boxes, by computation.
pub mod Wire
pub mod Effects
pub mod Ticks
pub mod Saves
pub mod Image
pub mod Levels
pub mod Runs
pub mod Samples
pub mod Hours
