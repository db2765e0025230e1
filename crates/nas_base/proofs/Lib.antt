pub mod Branching
pub mod DigitsLemmas
pub mod FirstsLaws
pub mod KindLaws
pub mod SinkLaws
pub mod WalkLaws
pub mod WrittenLaws
