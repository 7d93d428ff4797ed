pub mod Powers
pub mod Voltages
pub mod Laws
