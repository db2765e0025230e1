pub mod CountLaws
pub mod FrameLemmas
pub mod PassingLaws
pub mod VerdictLaws
