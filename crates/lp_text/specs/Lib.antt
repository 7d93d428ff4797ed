pub mod Limits
pub mod Memory
pub mod Micros
pub mod Numbers
pub mod Places
pub mod Shelf
pub mod Streams
pub mod Texts
