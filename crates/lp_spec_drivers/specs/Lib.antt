pub mod Counts
pub mod Drivers
pub mod Laws
