pub mod Choice
pub mod Equality
pub mod Fits
pub mod Joins
pub mod Needs
pub mod PowerDown
pub mod Laws
