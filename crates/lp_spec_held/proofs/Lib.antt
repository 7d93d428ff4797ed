pub mod Assembled
pub mod BeforeEdge
pub mod Begun
pub mod BehindEdge
pub mod Cells
mod Computed
pub mod Flow
pub mod Inserted
pub mod Placed
