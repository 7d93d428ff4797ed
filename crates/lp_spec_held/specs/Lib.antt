pub mod Held
pub mod Inserted
pub mod Laws
