pub mod DigitLaws
pub mod FramingLaws
pub mod OpeningLaws
