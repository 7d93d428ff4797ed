pub mod Added
mod Apart
pub mod Assigns
pub mod Bits
pub mod Chains
mod Computed
pub mod Controls
pub mod Down
pub mod Inputs
pub mod Intervals
pub mod Kept
pub mod Led
pub mod Lists
pub mod Others
mod Ports
mod Samples
pub mod Supplies
pub mod Tops
pub mod Wires
