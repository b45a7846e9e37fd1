-- What the contracts of the call cite.
pub mod Outcome
pub mod Pairs
