pub mod Drafting
pub mod Sqns
pub mod Taking
