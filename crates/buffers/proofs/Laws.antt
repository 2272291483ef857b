pub mod Paste
