pub mod Noted
pub mod Rows
pub mod Walks
pub mod Splits
pub mod Standing
pub mod Finding
pub mod Cells
pub mod Named
