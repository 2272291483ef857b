pub mod Charge
pub mod Readings
pub mod Claims
pub mod TwoReadings
pub mod Worked
