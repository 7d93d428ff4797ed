pub mod Leaks
pub mod Network
pub mod Rows
pub mod Voltages
pub mod Laws
