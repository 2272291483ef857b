-- Laws that belong to no one function, and what a read leaves of the box.
pub mod Laws
pub mod Back
