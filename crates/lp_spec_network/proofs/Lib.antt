mod Computed
pub mod FirstRow
pub mod SomeRow
pub mod Samples
