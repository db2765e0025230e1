pub mod ConfigLaws
pub mod DocumentLaws
pub mod LinesLaws
pub mod ScriptLaws
pub mod TranscriptLaws
pub mod WorldLaws
