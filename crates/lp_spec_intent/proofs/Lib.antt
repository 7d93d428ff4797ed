pub mod Samples
mod Computed
mod ComputedFaults
mod ComputedIntents
pub mod Places
pub mod Sound
