pub mod Config
pub mod Lengths
pub mod Network
pub mod Owners
pub mod State
pub mod TakingOver
pub mod Ticks
pub mod Turns
