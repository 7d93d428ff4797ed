pub mod Differ
pub mod Soundness
