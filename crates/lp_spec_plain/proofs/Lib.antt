pub mod Choices
pub mod Down
pub mod Equations
pub mod Reading
pub mod Runs
pub mod Settled
pub mod Supplied
