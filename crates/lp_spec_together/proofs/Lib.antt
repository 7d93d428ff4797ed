pub mod Indices
pub mod Supplied
pub mod Joined
pub mod Wired
