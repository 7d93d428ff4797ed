pub mod Structures
pub mod Reports
pub mod Targets
pub mod Numbered
pub mod Marks
pub mod Children
pub mod Sizes
pub mod Laws
