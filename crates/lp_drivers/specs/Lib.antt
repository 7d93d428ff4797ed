pub mod Seen
pub mod Cells
pub mod Table
pub mod Ready
pub mod Laws
