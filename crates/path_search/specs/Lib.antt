-- What the contracts of the search for the path behind a weight cite.
pub mod Answers
pub mod Searchable
pub mod Trail
pub mod Traced
pub mod Search
pub mod FirstPath
pub mod Tight
