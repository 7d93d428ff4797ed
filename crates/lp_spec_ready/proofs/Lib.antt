pub mod Declared
pub mod Few
