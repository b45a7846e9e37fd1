-- Facts that belong to no one function.
pub mod ListFacts
pub mod StripFacts
pub mod RecordFacts
pub mod TestFacts
pub mod StepFacts
pub mod RoundFacts
pub mod RowFacts
pub mod FollowFacts
pub mod SoundFacts
