mod Apart
mod Cells
mod Changed
mod Computed
mod Ends
mod Equal
mod Flow
mod Hub
mod Intended
mod Keeping
mod ModuleNames
mod Near
mod Orderly
pub mod Paths
mod Readers
mod Routed
mod Routes
pub mod Samples
mod Supplied
mod Ways
mod Whole
mod Wired
