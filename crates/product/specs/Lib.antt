-- What the contracts of the aligned product as it is called cite.
pub mod Answered
pub mod Multiplied
pub mod Prepared
