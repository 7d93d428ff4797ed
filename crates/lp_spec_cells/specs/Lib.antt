pub mod Sound
pub mod Joined
pub mod Retention
pub mod Laws
pub mod RegisterLaws
pub mod RelatedLaws
pub mod PinLaws
