pub mod Contexts
pub mod Counts
pub mod Frame
pub mod Laws
pub mod Passing
pub mod Protecting
