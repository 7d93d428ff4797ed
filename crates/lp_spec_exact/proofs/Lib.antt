mod Limits
mod Fit
mod Single
mod Few
mod Held
pub mod Exact
