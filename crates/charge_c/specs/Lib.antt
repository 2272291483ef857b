-- What the exported function takes and answers.
pub mod Codes
