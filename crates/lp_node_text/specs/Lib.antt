pub mod Paths
pub mod Numbered
pub mod Ready
pub mod Reports
