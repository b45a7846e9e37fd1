-- Facts that belong to no one function.
pub mod CallFacts
pub mod ToldFacts
pub mod PairFacts
