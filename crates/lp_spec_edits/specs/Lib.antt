pub mod Edits
pub mod Laws
pub mod Net
pub mod Sound
