pub mod Verdicts
mod Reading
mod Related
