-- What the contracts on records stored from a text cite.
pub mod Recode
pub mod Stored
