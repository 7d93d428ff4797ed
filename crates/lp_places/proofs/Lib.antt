pub mod Numbers
mod Firsts
