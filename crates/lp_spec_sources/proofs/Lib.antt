mod Alike
mod Assigns
mod Clash
mod Equal
mod Lists
mod Names
mod Ports
mod Whole
