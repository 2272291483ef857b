-- Laws that belong to no one function, and the proofs of the claims.
pub mod Laws
pub mod Claims
