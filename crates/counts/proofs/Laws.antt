pub mod Down
pub mod Quarters
