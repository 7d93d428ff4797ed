pub mod Noting
pub mod Shape
pub mod Sources
pub mod Nodes
pub mod Graphs
pub mod Numbering
pub mod Views
