pub mod Mm
pub mod Plain
pub mod Sm
