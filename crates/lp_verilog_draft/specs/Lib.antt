pub mod Verdicts
pub mod Scopes
pub mod Values
pub mod Steps
