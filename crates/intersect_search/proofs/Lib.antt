-- Facts that belong to no one function.
pub mod BeginFacts
pub mod RunFacts
