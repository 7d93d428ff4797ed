pub mod Joins
pub mod Supplied
pub mod Laws
