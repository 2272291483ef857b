-- What registers show of every channel at once: its flags, and whether it has errors.
pub mod Words
