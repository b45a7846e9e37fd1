-- Facts of the rows of configurations, of their numbers and of the result.
pub mod RankFacts
pub mod RowFacts
pub mod ResultFacts
pub mod StateModel
pub mod ArcModel
pub mod Meaning
