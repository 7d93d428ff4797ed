mod Computed
pub mod DesignLaws
pub mod Looks
mod Retained
pub mod Runs
pub mod Corrupted
pub mod Same
pub mod Members
pub mod WaysBack
pub mod Looped
pub mod Sources
pub mod Samples
