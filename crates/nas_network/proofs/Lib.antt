mod Beginnings
mod Changed
mod Due
mod Few
mod FirstOwners
pub mod Growing
mod Lengths
mod Owners
mod Running
mod Supis
mod TakingOver
