pub mod Residues
pub mod Bytes
