pub mod LaidOut
pub mod Lists
pub mod Numbers
pub mod Pins
pub mod Readers
pub mod Single
pub mod Sound
