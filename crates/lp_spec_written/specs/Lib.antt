pub mod Implements
pub mod Limits
pub mod Nets
pub mod Places
pub mod Routes
pub mod Shared
pub mod Supplies
pub mod Written
