mod Ready
pub mod Reporting
mod Laying
