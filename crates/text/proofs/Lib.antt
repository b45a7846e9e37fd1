-- Facts of texts that are read and written.
pub mod ReadFacts
pub mod WrittenFacts
