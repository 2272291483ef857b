-- What the functions that write into a buffer leave there.
pub mod Pasted
