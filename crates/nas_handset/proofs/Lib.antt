pub mod Due
mod Lengths
pub mod Long
pub mod Owners
