pub mod Reading
pub mod Answers
pub mod Denotes
pub mod Reads
pub mod Places
pub mod Refusing
pub mod Laws
