-- What the contracts of the call `path` cite.
pub mod Answers
