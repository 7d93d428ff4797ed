pub mod BelowLemmas
mod Computed
pub mod CutLemmas
pub mod LeakLemmas
pub mod LowerLemmas
pub mod RowLemmas
