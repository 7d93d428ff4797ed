pub mod Numbered
pub mod Spots
pub mod Paths
