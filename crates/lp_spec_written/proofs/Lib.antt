pub mod Computed
pub mod ComputedRoutes
mod ComputedShared
pub mod ComputedSupplies
mod Digits
mod Implemented
mod Shapes
pub mod Samples
