pub mod Names
pub mod Made
pub mod Lookups
pub mod Faults
pub mod Effects
pub mod Intent
pub mod Laws
