mod Computed
pub mod Lists
pub mod Numbered
pub mod Joints
pub mod Pins
pub mod Outside
pub mod Fed
pub mod Measured
pub mod Leaves
pub mod Walked
pub mod Heights
pub mod OnePass
pub mod Closed
pub mod Laid
mod ComputedLaid
