pub mod Layout
pub mod WellFormed
pub mod Examples
pub mod Sound
pub mod Views
pub mod Whole
