pub mod Opens
pub mod PoolLemmas
pub mod Rows
pub mod Sharing
pub mod SpotLemmas
pub mod Walks
