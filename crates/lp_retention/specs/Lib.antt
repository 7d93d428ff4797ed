pub mod Marks
pub mod Best
pub mod Ranks
pub mod Claims
