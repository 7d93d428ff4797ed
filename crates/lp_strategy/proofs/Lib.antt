pub mod Entries
pub mod Placed
pub mod Numbers
pub mod Placing
