-- The bits of step 6 that the load and the terminals decide.
pub mod Load
