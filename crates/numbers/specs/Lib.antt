-- What the box's Reals mean, and which of them its registers take: document 01, Time and amperes.
pub mod Reals
pub mod Written
pub mod Claims
pub mod Worked
