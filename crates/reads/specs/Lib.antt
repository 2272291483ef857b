-- The words of the reads that document 01's definitions have no name for.
pub mod Held
pub mod Left
pub mod Reading
