-- Facts of lists of pairs lent as records.
pub mod RecordFacts
