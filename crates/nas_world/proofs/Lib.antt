pub mod Finding
pub mod Index
pub mod Judged
pub mod Outcomes
