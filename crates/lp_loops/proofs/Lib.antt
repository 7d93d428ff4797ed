pub mod Below
pub mod Ways
mod SearchLaws
mod Rising
