pub mod Laws
pub mod Met
pub mod OneDomain
pub mod Taken
