-- What the contracts of the search over configurations cite.
pub mod Exploring
