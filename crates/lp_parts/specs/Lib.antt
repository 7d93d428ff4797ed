pub mod Functions
pub mod Names
pub mod Pins
pub mod Roles
pub mod Source
pub mod States
pub mod Views
