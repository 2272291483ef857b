pub mod Sections
pub mod Entries
pub mod Halves
pub mod Tests
