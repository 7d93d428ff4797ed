mod Computed
pub mod Clamps
pub mod Firing
pub mod Functions
pub mod Names
pub mod OfSource
pub mod Operators
pub mod Outcomes
pub mod Outputs
pub mod OverPins
pub mod PoweredUp
pub mod RelatedPins
pub mod Retained
pub mod Shifters
pub mod States
pub mod Switches
pub mod LooksAtPins
