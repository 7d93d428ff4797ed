mod Limits
mod Lines
mod Reading
mod Whole
mod Worked
