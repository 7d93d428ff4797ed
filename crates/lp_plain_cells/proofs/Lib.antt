mod Levels
mod Seen
