pub mod Alike
pub mod Carried
pub mod Cells
pub mod Designs
