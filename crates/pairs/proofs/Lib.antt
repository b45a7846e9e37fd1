-- Facts that belong to no one function.
pub mod ListFacts
pub mod PairFacts
pub mod TestFacts
pub mod DecideFacts
pub mod CallFacts
pub mod TurnFacts
