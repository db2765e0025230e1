pub mod DeadlineLaws
pub mod DueLaws
pub mod NameLemmas
pub mod PlaceLemmas
pub mod TimersLemmas
