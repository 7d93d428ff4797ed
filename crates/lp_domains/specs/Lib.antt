pub mod Listed
pub mod Domains
pub mod Boundary
pub mod Bits
pub mod Laws
