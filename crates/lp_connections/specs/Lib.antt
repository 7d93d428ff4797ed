pub mod Parts
pub mod Rows
pub mod Numbered
pub mod Reports
pub mod Limits
