pub mod Depths
pub mod Found
pub mod Loops
pub mod Whole
mod Computed
