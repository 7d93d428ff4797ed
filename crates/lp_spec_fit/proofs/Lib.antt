pub mod Chosen
mod Computed
pub mod Equal
pub mod Samples
