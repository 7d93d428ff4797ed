pub mod Differ
pub mod Lists
