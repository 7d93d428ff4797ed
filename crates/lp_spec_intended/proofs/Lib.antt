mod Voltages
mod Inputs
mod Ends
mod Network
mod Whole
