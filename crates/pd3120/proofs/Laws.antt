pub mod Wire
pub mod Samples
pub mod Storing
pub mod Bytes
pub mod Minute
pub mod Powering
pub mod Lookups
