pub mod Designs
pub mod Netlists
pub mod Tests
