-- What the contracts of a join cite.
pub mod Judged
