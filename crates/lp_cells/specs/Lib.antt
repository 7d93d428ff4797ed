pub mod Cells
pub mod Reasons
pub mod Sound
pub mod Whole
pub mod Laws
