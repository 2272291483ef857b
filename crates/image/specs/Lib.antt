-- Parts of an image and of its answers that document 01 has no name for.
pub mod Parts
pub mod Lengths
