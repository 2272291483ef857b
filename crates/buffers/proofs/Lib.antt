-- Laws that several proofs share, here and in the crates above.
pub mod Laws
