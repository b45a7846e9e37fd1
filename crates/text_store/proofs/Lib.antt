-- Facts of records stored from a text.
pub mod RecodeFacts
pub mod StoredFacts
