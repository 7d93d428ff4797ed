pub mod Shapes
pub mod Commands
pub mod Intent
pub mod Laws
