pub mod Design
pub mod Inserting
pub mod Outcomes
pub mod Ran
pub mod Reading
pub mod Words
