pub mod Parts
pub mod Sites
pub mod Feeds
pub mod Walked
pub mod Leaves
pub mod Laid
pub mod OnePass
pub mod Laws
