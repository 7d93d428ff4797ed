pub mod Same
pub mod Once
pub mod Senses
mod Computed
