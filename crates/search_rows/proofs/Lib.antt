-- Facts of codes of vertices, of a search over them and of the records kept.
pub mod Meaning
pub mod CodeFacts
pub mod KeptFacts
pub mod SearchFacts
pub mod ProgressFacts
