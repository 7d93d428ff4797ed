pub mod Inputs
pub mod Stages
pub mod Read
pub mod Judged
