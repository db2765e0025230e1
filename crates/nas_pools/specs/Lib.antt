pub mod Bits
pub mod Config
pub mod Families
pub mod Kinds
pub mod Numbers
pub mod PoolLaws
pub mod Pools
