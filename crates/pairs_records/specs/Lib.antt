-- The definitions that contracts over lists of pairs lent as records cite.
pub mod Records
