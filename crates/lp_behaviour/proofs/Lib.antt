pub mod Replacing
pub mod Filling
pub mod Usability
pub mod RegisterLaws
pub mod Always
