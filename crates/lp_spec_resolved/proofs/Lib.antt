mod ComputedNames
mod ComputedSupplies
pub mod Numbers
pub mod Read
pub mod Isolating
pub mod Facts
pub mod Controls
pub mod Whole
pub mod Kept
pub mod Origins
pub mod Declared
pub mod Named
pub mod Switches
pub mod Visible
