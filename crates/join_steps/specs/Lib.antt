-- What the contracts of a join's steps cite.
pub mod Steps
