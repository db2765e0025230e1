pub mod ChallengeLemmas
pub mod HomeLemmas
pub mod HomeRises
pub mod OctetLemmas
pub mod Vectors
