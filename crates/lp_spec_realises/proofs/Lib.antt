mod Computed
pub mod Fuels
mod Judged
pub mod Netlists
pub mod Places
pub mod Ports
pub mod Samples
