pub mod Pins
pub mod Reads
pub mod Registers
pub mod Supplied
pub mod Runs
pub mod Alike
pub mod Laws
