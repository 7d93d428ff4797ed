pub mod Read
pub mod Measured
pub mod Laws
