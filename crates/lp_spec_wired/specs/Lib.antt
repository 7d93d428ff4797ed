pub mod Additions
pub mod Contents
pub mod Laws
pub mod Names
pub mod Reserved
