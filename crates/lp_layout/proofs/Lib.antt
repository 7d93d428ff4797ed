mod Lists
mod Fed
mod Named
mod Seen
mod InputBits
mod Tabled
pub mod Noted
