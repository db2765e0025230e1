pub mod Aes
pub mod Blocks
pub mod Cmac
pub mod Ctr
pub mod Field
pub mod Nas
pub mod Published
pub mod Substitution
