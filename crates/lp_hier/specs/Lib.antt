pub mod Judged
pub mod Reports
pub mod Elaborated
