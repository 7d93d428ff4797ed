mod Computed
pub mod Reading
