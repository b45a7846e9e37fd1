-- Laws behind the functions on a tuple's strings.
pub mod LineFacts
pub mod PlaceFacts
pub mod JudgementFacts
pub mod PositionFacts
