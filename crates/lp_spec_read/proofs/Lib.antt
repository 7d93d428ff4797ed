pub mod Cells
pub mod Netlists
