pub mod Names
pub mod Reading
pub mod Spelled
pub mod Upf
