pub mod Below
pub mod Finding
pub mod Lasts
pub mod Reading
