pub mod Items
pub mod Lines
pub mod Paths
pub mod Supplies
pub mod Views
pub mod Laws
