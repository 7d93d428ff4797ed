pub mod Closed
mod Computed
pub mod Edited
pub mod Ends
pub mod Entries
pub mod Gaps
pub mod Joined
pub mod Opened
pub mod Splits
pub mod Swapped
pub mod Wires
