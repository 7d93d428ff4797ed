pub mod Supplies
pub mod Complete
pub mod Said
pub mod Laws
