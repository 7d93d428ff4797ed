pub mod Content
pub mod Laws
