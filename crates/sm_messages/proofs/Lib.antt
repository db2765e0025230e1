pub mod Back
pub mod Bodies
pub mod FirstElementsLaws
pub mod HalvesBack
pub mod SpelledLaws
