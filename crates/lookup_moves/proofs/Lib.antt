-- Facts that belong to no one function.
pub mod MoveFacts
pub mod CellFacts
pub mod SpanFacts
