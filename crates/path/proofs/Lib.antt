-- Facts of the call for a path.
pub mod CallFacts
pub mod RecordFacts
