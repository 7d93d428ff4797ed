pub mod OrderLaws
mod RowsLemmas
mod WalkLemmas
