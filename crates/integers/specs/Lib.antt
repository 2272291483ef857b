-- What whole numbers of a fixed width mean, and their bytes on the wire.
pub mod Integers
pub mod Bytes
pub mod Claims
