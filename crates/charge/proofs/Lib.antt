pub mod Laws
pub mod Claims
pub mod TwoReadings
pub mod Worked
