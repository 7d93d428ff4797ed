pub mod Visible
pub mod Tables
pub mod Words
