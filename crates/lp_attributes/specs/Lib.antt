pub mod Attributes
pub mod Expressions
pub mod Words
