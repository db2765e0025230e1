pub mod BlockLaws
pub mod Vectors
