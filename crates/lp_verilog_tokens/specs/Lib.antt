pub mod Lexical
pub mod Reserved
pub mod Constants
pub mod Cutting
pub mod View
