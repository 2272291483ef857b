-- A tick in two parts: what it has worked out when it comes to the channels, and what it does to each.
pub mod Begun
pub mod PutBack
