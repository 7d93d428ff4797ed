mod Held
mod Joined
mod Indexed
mod Parts
mod Few
