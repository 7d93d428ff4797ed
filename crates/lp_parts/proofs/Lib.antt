pub mod Below
pub mod Known
pub mod Places
pub mod Viewed
