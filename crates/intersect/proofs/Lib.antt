-- Facts of the auto-intersection as it is called.
pub mod ConfigRows
pub mod SearchFacts
pub mod StepFacts
pub mod PrepareFacts
pub mod CallFacts
