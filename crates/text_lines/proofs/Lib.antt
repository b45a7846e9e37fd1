-- Facts of lines that are read and judged.
pub mod LineFacts
pub mod ArcFacts
pub mod SequenceFacts
pub mod HeaderFacts
pub mod BodyFacts
pub mod TableFacts
