pub mod Readings
pub mod Few
pub mod Judging
pub mod Checking
pub mod Accepting
pub mod Plains
