pub mod Framing
pub mod Heads
pub mod Laws
pub mod Lengths
pub mod Opening
