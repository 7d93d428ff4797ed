pub mod Begins
pub mod Changes
pub mod Contents
pub mod Drives
pub mod Entries
pub mod Laws
pub mod Spots
pub mod Whole
