pub mod Numbered
pub mod Scalars
