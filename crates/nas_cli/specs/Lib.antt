pub mod Disk
pub mod Files
pub mod Machine
pub mod Program
pub mod Shelf
pub mod Status
pub mod Vectors
