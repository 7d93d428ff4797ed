mod Computed
pub mod JoinedLaws
pub mod OneOrigin
pub mod WholeGroups
pub mod Samples
