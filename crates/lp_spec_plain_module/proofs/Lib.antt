pub mod Carried
mod Computed
pub mod Graphs
pub mod Lists
pub mod Plain
pub mod Sources
pub mod Supplies
pub mod Samples
