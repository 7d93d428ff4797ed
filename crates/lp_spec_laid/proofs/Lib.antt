mod Named
mod Nodes
mod Rows
mod Fed
mod Counted
pub mod Laid
