mod Winning
mod Lists
mod Reached
mod Levels
mod Ranked
mod Joined
mod Ties
