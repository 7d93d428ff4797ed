pub mod Insertable
pub mod Laws
