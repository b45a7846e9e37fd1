-- The definitions that contracts over lent lists of pairs cite.
pub mod PairBytes
pub mod PairTests
pub mod Judgement
