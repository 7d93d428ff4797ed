pub mod Lends
pub mod Ownership
pub mod PairLends
pub mod Places
pub mod Pool
pub mod PoolLends
