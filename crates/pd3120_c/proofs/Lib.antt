-- That a code's parts are found again, and laws of lengths and of the loops.
pub mod Laws
pub mod Unpacked
