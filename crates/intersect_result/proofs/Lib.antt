-- Facts of the result of an auto-intersection.
pub mod KeepFacts
pub mod FinishFacts
pub mod AnswerFacts
