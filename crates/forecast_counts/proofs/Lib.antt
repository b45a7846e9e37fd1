-- Facts of the counts: of states, of delays, of symbols; and that they are those of the definitions.
pub mod PathFacts
pub mod DelayFacts
pub mod SymbolFacts
pub mod TableFacts
