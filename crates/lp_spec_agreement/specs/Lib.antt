pub mod Alike
pub mod Cells
pub mod Faultless
pub mod Laws
pub mod Met
