pub mod Single
pub mod Fits
pub mod Flats
pub mod Laws
