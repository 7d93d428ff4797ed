pub mod Below
mod Computed
pub mod Naming
pub mod Second
pub mod Sounding
pub mod Standing
pub mod Usability
