-- Facts of the lines printed of a table.
pub mod PrintedFacts
pub mod TablePrinted
