-- Facts about the tables.
pub mod TableFacts
