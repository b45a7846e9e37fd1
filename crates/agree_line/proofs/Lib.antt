-- Facts of the pair line and of pairs as bytes.
pub mod PairFacts
pub mod LineFacts
