pub mod Functions
pub mod Registers
pub mod Signals
pub mod Usable
pub mod Laws
