mod Lists
mod Named
mod Texts
mod Marks
mod Closed
pub mod Recursion
pub mod Upward
pub mod Looping
mod FirstLooped
mod Refused
pub mod Together
mod Capped
pub mod Orders
pub mod Summed
mod Depths
mod Owns
pub mod BelowTop
mod OverLimits
mod Stops
mod Shaped
