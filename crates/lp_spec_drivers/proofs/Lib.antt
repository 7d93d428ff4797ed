pub mod Numbers
pub mod Placed
pub mod Sited
pub mod Least
pub mod ByModule
pub mod Below
pub mod Entered
mod Computed
