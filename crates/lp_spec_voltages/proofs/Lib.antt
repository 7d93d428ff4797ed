pub mod Roots
pub mod Within
pub mod Together
pub mod Readings
pub mod Chains
pub mod Readers
pub mod Asked
pub mod Controls
pub mod Powers
pub mod Pairs
pub mod Shifters
mod Computed
mod Witness
