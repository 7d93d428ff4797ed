pub mod Middle
pub mod Powered
pub mod Views
pub mod Below
