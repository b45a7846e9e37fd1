-- Facts of hash chains: records at the fronts of rows, one row's bytes beside another's, the search, an entry, and what
-- they mean.
pub mod FrontFacts
pub mod RowFacts
pub mod FindFacts
pub mod EntryFacts
pub mod EnterFacts
pub mod HashFacts
pub mod Meaning
