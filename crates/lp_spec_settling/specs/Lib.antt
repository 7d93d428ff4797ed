pub mod Settling
pub mod Runs
