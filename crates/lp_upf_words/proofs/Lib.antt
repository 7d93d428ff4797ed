mod Again
mod Answered
mod Content
mod Found
mod Leaving
pub mod Modest
pub mod Once
mod Shown
pub mod Sizes
