-- The definitions that contracts over lent byte slices cite.
pub mod Region
pub mod Endian
pub mod Answers
pub mod Pairs
pub mod Records
pub mod Arcs
pub mod Symbols
pub mod Judging
