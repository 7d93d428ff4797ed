pub mod Sides
pub mod Elements
pub mod Claims
