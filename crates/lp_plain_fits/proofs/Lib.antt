mod Growing
mod Singles
mod Lists
mod Cells
mod Sources
mod Fitting
