pub mod Clamped
pub mod Looks
mod Retained
mod ShownState
pub mod Runs
pub mod Held
