pub mod Declared
pub mod Entering
pub mod Standing
pub mod Reading
pub mod Writing
mod Computed
