pub mod Parts
pub mod Equivalent
pub mod Depths
pub mod Sharing
pub mod Names
pub mod Written
