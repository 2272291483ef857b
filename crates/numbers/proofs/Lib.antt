-- Laws that belong to no one function, and the proofs of the claims and of the worked times.
pub mod Laws
pub mod Claims
pub mod Worked
