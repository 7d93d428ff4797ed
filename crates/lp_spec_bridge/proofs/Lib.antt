pub mod Trails
mod Computed
mod ComputedKept
pub mod Samples
pub mod Apart
pub mod Behind
pub mod Passed
pub mod Driven
pub mod Distinct
pub mod Templates
pub mod Inherited
pub mod Ways
pub mod Noted
pub mod Tested
pub mod Inputs
pub mod Loops
pub mod Readers
pub mod Tops
pub mod Kept
pub mod Named
